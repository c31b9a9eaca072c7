-- The numbers that runs write. A numeral is told by a test of each digit and by its value, which is
-- what std's parsing of digits says. A run that begins with `0x` is hexadecimal, and no decimal
-- number begins so, as its second byte is a digit; and `0` begins no other decimal number.
use Rattle.std.proofs.Common.{◌≡◌, ℕ, OkIff, ◌<◌, ◌^◌, ◌≢◌, Bool, true, false, List, [], ◌∷◌, ◌++◌, length, get_or, drop, not, ◌&&◌, ◌==◌, lt-ltb, ltb-true, inl, inr, refl, ap, sym, ◌∙◌, subst, arith, codes, ne_eqb, eqb-true, Option, Some, None, Result, Ok, Err}
use Rattle.std.specs.List.{AllByRecursion, list_all}
use Rattle.std.specs.Cmp.{first_so, second_so}
use Rattle.std.specs.Char.{is_ascii_digit, is_digit, digit_value}
use Rattle.std.specs.Result.{result_ok}
use Rattle.std.specs.Str.Parse.{digits_value, ParsesUnsigned, AllDigits, IsNumeral}
use Rattle.std.proofs.lemmas.Bool.{false_from_ne_true, cond_both}
use Rattle.std.proofs.lemmas.Bool.Decides.{nat_tests}
use Rattle.std.proofs.lemmas.Option.{cond_some}
use Rattle.std.proofs.lemmas.Str.Parse.{without_leading_plus_none}
use Rattle.dh_tree.specs.Names.{IsNameByte}
use Rattle.dh_lexer.specs.Pieces.{WritesNumber}
use Rattle.dh_lexer.specs.FrontPiece.{is_numeral, digits_number, scanned_number}

both_so : (a b : Bool) → a ≡ true → b ≡ true → (a && b) ≡ true
both_so a b e f = rw (e, f) refl

digits_so : (radix : ℕ) (ds : List ℕ) → list_all (λ c. is_digit c radix) ds ≡ true → AllDigits radix ds
digits_so radix [] e = tt
digits_so radix (c ∷ cs) e =
    (ltb-true (digit_value c) radix (first_so (is_digit c radix) _ e), digits_so radix cs (second_so (is_digit c radix) _ e))

so_digits : (radix : ℕ) (ds : List ℕ) → AllDigits radix ds → list_all (λ c. is_digit c radix) ds ≡ true
so_digits radix [] all = refl
so_digits radix (c ∷ cs) all = both_so (is_digit c radix) _ (lt-ltb (digit_value c) radix all.0) (so_digits radix cs all.1)

-- digits that write a number below 2^64
pub record IsSmall (radix : ℕ) (ds : List ℕ) : Type 0 where
  pub numeral : IsNumeral radix ds
  pub small : digits_value radix ds < 2 ^ 64

numeral_so : (radix : ℕ) (ds : List ℕ) → is_numeral radix ds ≡ true → IsSmall radix ds
numeral_so radix ds e =
    let rest = second_so _ _ e in
    record {
      numeral = (ltb-true 0 (length ds) (first_so _ _ e), digits_so radix ds (first_so (list_all (λ c. is_digit c radix) ds) _ rest));
      small = ltb-true (digits_value radix ds) (2 ^ 64) (second_so (list_all (λ c. is_digit c radix) ds) _ rest);
    }

so_numeral : (radix : ℕ) (ds : List ℕ) → IsSmall radix ds → is_numeral radix ds ≡ true
so_numeral radix ds s =
    both_so _ _ (lt-ltb 0 (length ds) s.numeral.0) (both_so _ _ (so_digits radix ds s.numeral.1) (lt-ltb (digits_value radix ds) (2 ^ 64) s.small))

digits_found : (radix : ℕ) (ds : List ℕ) (n : ℕ) → digits_number radix ds ≡ Some n → IsSmall radix ds × (digits_value radix ds ≡ n)
unfolding digits_number
digits_found radix ds n e =
    let test = cond_some (is_numeral radix ds) (digits_value radix ds) n e in (numeral_so radix ds test.0, test.1)

digits_written : (radix : ℕ) (ds : List ℕ) → IsSmall radix ds → digits_number radix ds ≡ Some (digits_value radix ds)
unfolding digits_number
digits_written radix ds s = rw (so_numeral radix ds s) refl

-- std reads such digits, and a `+` that cannot stand here
no_plus : (w : List ℕ) → AllByRecursion IsNameByte w → get_or w 0 0 ≢ 43
no_plus [] all e = cc
no_plus (b ∷ bs) all e = grind (arith, all.0)

read_so : {E : Type 0} (radix : ℕ) (w : List ℕ) (r : Result ℕ E) → OkIff r (IsNumeral radix w × (digits_value radix w < 2 ^ 64)) (digits_value radix w)
    → result_ok r ≡ digits_number radix w
unfolding digits_number
read_so radix w (Ok x) h = rw (so_numeral radix w (record { numeral = h.0.0; small = h.0.1 })) (ap Some h.1)
read_so radix w (Err e) h =
    let fails : is_numeral radix w ≡ false = false_from_ne_true _ (λ e. let s = numeral_so radix w e in h (s.numeral, s.small)) in rw fails refl

pub digits_read : {E : Type 0} (radix : ℕ) (w : List ℕ) (r : Result ℕ E) → AllByRecursion IsNameByte w → ParsesUnsigned 64 radix w r → result_ok r ≡ digits_number radix w
digits_read {E} radix w r names h =
    read_so radix w r (subst (λ (l : List ℕ). OkIff r (IsNumeral radix l × (digits_value radix l < 2 ^ 64)) (digits_value radix l)) (without_leading_plus_none w (no_plus w names)) h)

-- what `scanned_number` finds, the run writes
zero_alone : (b n : ℕ) → ((b == 48) && not (n == 1)) ≡ false → b ≡ 48 → n ≡ 1
zero_alone b n test zero = grind (arith, nat_tests)

hex_is : (w : List ℕ) → get_or w 0 0 ≡ 48 → get_or w 1 0 ≡ 120 → w ≡ codes "0x" ++ drop 2 w
hex_is [] e f = absurd cc
hex_is (a ∷ []) e f = absurd cc
hex_is (a ∷ (b ∷ ds)) e f = rw (e, f) refl

-- a number that is found was written, in this form
abbrev FoundNumber : List ℕ → Option ℕ → Type 0
FoundNumber w None = Unit {0}
FoundNumber w (Some n) = WritesNumber n w

hex_found : (w : List ℕ) → get_or w 0 0 ≡ 48 → get_or w 1 0 ≡ 120 → (o : Option ℕ) → digits_number 16 (drop 2 w) ≡ o → FoundNumber w o
hex_found w e f None h = tt
hex_found w e f (Some n) h =
    let s = digits_found 16 (drop 2 w) n h in
    (subst (λ (m : ℕ). m < 2 ^ 64) s.1 s.0.small, inr (record { digits = drop 2 w; spelled = hex_is w e f; numeral = s.0.numeral; is = s.1 }))

decimal_found : (w : List ℕ) → (get_or w 0 0 ≡ 48 → length w ≡ 1) → (o : Option ℕ) → digits_number 10 w ≡ o → FoundNumber w o
decimal_found w alone None h = tt
decimal_found w alone (Some n) h =
    let s = digits_found 10 w n h in
    (subst (λ (m : ℕ). m < 2 ^ 64) s.1 s.0.small, inl (record { digits = s.0.numeral; alone = alone; is = s.1 }))

number_right : (w : List ℕ) → FoundNumber w (scanned_number w)
unfolding scanned_number
number_right w =
    cond_both ((get_or w 0 0 == 48) && (get_or w 1 0 == 120)) _ _ (FoundNumber w)
    (λ e. hex_found w (eqb-true _ 48 (first_so (get_or w 0 0 == 48) _ e)) (eqb-true _ 120 (second_so (get_or w 0 0 == 48) _ e)) _ refl)
    (λ _. cond_both ((get_or w 0 0 == 48) && not (length w == 1)) _ _ (FoundNumber w)
    (λ _. tt)
    (λ e. decimal_found w (zero_alone (get_or w 0 0) (length w) e) _ refl))

pub number_found : (w : List ℕ) (n : ℕ) → scanned_number w ≡ Some n → WritesNumber n w
number_found w n e = subst (FoundNumber w) e (number_right w)

-- what a run writes is found
no_hex : (b c : ℕ) → digit_value c < 10 → ((b == 48) && (c == 120)) ≡ false
no_hex b c digit = grind (arith, nat_tests)

decimal_written : (w : List ℕ) → IsSmall 10 w → (get_or w 0 0 ≡ 48 → length w ≡ 1) → scanned_number w ≡ Some (digits_value 10 w)
unfolding scanned_number
decimal_written [] s alone = absurd (omega (arith, s.numeral.0))
decimal_written (b ∷ []) s alone =
    let first : ((b == 48) && (0 == 120)) ≡ false = grind (arith, nat_tests) in
    rw first (digits_written 10 (b ∷ []) s)
decimal_written (b ∷ (c ∷ ds)) s alone =
    let first : ((b == 48) && (c == 120)) ≡ false = no_hex b c s.numeral.1.1.0 in
    let other : (b == 48) ≡ false = ne_eqb b 48 (λ e. let n = alone e in omega (arith, n)) in
    rw (first, other) (digits_written 10 (b ∷ (c ∷ ds)) s)

hex_written : (ds : List ℕ) → IsSmall 16 ds → scanned_number (codes "0x" ++ ds) ≡ Some (digits_value 16 ds)
unfolding scanned_number
hex_written ds s = digits_written 16 ds s

pub number_written : (w : List ℕ) (n : ℕ) → WritesNumber n w → scanned_number w ≡ Some n
number_written w n (small, inl d) =
    decimal_written w (record { numeral = d.digits; small = subst (λ (m : ℕ). m < 2 ^ 64) (sym d.is) small }) d.alone ∙ ap Some d.is
number_written w n (small, inr h) =
    ap scanned_number h.spelled ∙ (hex_written h.digits (record { numeral = h.numeral; small = subst (λ (m : ℕ). m < 2 ^ 64) (sym h.is) small }) ∙ ap Some h.is)

-- a number begins with a digit, and all its bytes are letters, digits or `_`
digit_name : (c : ℕ) → digit_value c < 16 → IsNameByte c
digit_name c e = grind (arith, nat_tests)

digit_below : (c : ℕ) → digit_value c < 10 → digit_value c < 16
digit_below c e = omega (arith, e)

hex_names : (ds : List ℕ) → AllDigits 16 ds → AllByRecursion IsNameByte ds
hex_names [] all = tt
hex_names (c ∷ cs) all = (digit_name c all.0, hex_names cs all.1)

decimal_names : (ds : List ℕ) → AllDigits 10 ds → AllByRecursion IsNameByte ds
decimal_names [] all = tt
decimal_names (c ∷ cs) all = (digit_name c (digit_below c all.0), decimal_names cs all.1)

digit_test : (c : ℕ) → digit_value c < 10 → is_ascii_digit c ≡ true
digit_test c e = grind (arith, nat_tests)

decimal_begins : (w : List ℕ) → IsNumeral 10 w → is_ascii_digit (get_or w 0 0) ≡ true
decimal_begins [] d = absurd (omega (arith, d.0))
decimal_begins (c ∷ cs) d = digit_test c d.1.0

-- what is known of a run's bytes
pub record IsFilled (w : List ℕ) : Type 0 where
  pub some : 0 < length w
  pub names : AllByRecursion IsNameByte w

zero_x : (ds : List ℕ) → AllByRecursion IsNameByte ds → AllByRecursion IsNameByte (codes "0x" ++ ds)
zero_x ds names = (digit_name 48 (omega arith), (inl (inr (inl (omega arith, omega arith))), names))

pub number_names : (w : List ℕ) (n : ℕ) → WritesNumber n w → IsFilled w
number_names w n (small, inl d) = record { some = d.digits.0; names = decimal_names w d.digits.1 }
number_names w n (small, inr h) =
    rw h.spelled (record { some = omega arith; names = zero_x h.digits (hex_names h.digits h.numeral.1) })

pub number_begins : (w : List ℕ) (n : ℕ) → WritesNumber n w → is_ascii_digit (get_or w 0 0) ≡ true
number_begins w n (small, inl d) = decimal_begins w d.digits
number_begins w n (small, inr h) = rw h.spelled refl
