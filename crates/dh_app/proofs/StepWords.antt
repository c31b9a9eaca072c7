-- The numbers of steps that words write. What std reads of a plain word is written as `decimal` writes it;
-- and `decimal` writes plain words, since a zero in front would leave a shorter one.
use Rattle.std.proofs.Common.{◌≡◌, ℕ, ◌+◌, ◌*◌, ◌<◌, ◌≤◌, ◌^◌, ◌≢◌, OkIff, Bool, true, false, ◌&&◌, ◌==◌, nat_le, List, [], ◌∷◌, length, get_or, Option, Some, None, Result, Ok, Err, refl, sym, ap, ◌∙◌, subst, arith, decimal, eqb-true, le-leb, leb-true}
use Rattle.std.specs.Char.{digit_value}
use Rattle.std.specs.Str.{bytes_eq}
use Rattle.std.specs.Str.Parse.{digits_value, digits_value_after, ParsesUnsigned, AllDigits, IsNumeral}
use Rattle.std.proofs.lemmas.Bool.{eqb-false, false_from_ne_true}
use Rattle.std.proofs.lemmas.Bool.Decides.{nat_tests}
use Rattle.std.proofs.lemmas.Fmt.{decimal-digits_value, decimal_is_IsNumeral}
use Rattle.std.proofs.lemmas.Slice.Eq.{bytes_eq-Decides}
use Rattle.std.proofs.lemmas.Str.Parse.{IsNumeralModel, without_leading_plus_none, digit_from_value}
use Rattle.dh_app.specs.Words.{most_steps, steps_in_word, is_plain_word}

model : IsNumeralModel (AllDigits 10) (digits_value 10)
model = record { to = λ ds h. h; from = λ ds h. h; same = λ ds h. refl }

-- digits are not shorter than `decimal` writes their number
short : (ds : List ℕ) → AllDigits 10 ds → 0 < length ds → digits_value 10 ds < 2 ^ 64 → length (decimal (digits_value 10 ds)) ≤ length ds
short [] all l s = absurd (let z : 0 < 0 = l in omega arith)
short (d ∷ []) all l s = let e = ap (λ w. length w) (decimal-digits_value model (d ∷ []) all l (λ zero. refl) s) in omega (arith, e)
short (d ∷ (c ∷ cs)) all l s = by (d == 48) refl (short (c ∷ cs) all.1 (omega arith))
  where
    by : (b : Bool) → (d == 48) ≡ b → (digits_value 10 (c ∷ cs) < 2 ^ 64 → length (decimal (digits_value 10 (c ∷ cs))) ≤ length (c ∷ cs))
        → length (decimal (digits_value 10 (d ∷ (c ∷ cs)))) ≤ length (d ∷ (c ∷ cs))
    by false e less =
        let f = ap (λ w. length w) (decimal-digits_value model (d ∷ (c ∷ cs)) all l (λ zero. absurd (eqb-false d 48 e zero)) s) in
        omega (arith, f)
    by true e less =
        let same : digits_value 10 (d ∷ (c ∷ cs)) ≡ digits_value 10 (c ∷ cs) = ap (λ x. digits_value_after 10 (0 * 10 + digit_value x) (c ∷ cs)) (eqb-true d 48 e) in
        let h = less (subst (λ (n : ℕ). n < 2 ^ 64) same s) in
        let f : length (decimal (digits_value 10 (d ∷ (c ∷ cs)))) ≡ length (decimal (digits_value 10 (c ∷ cs))) = ap (λ n. length (decimal n)) same in
        omega (arith, h, f)

-- what a plain word does not begin with
no_plus : (w : List ℕ) → is_plain_word w ≡ true → get_or w 0 0 ≢ 43
no_plus [] p e = cc
no_plus (b ∷ []) p e = grind (arith, nat_tests)
no_plus (b ∷ (c ∷ bs)) p e = grind (arith, nat_tests)

no_zero : (w : List ℕ) → is_plain_word w ≡ true → 0 < length w → get_or w 0 0 ≡ 48 → length w ≡ 1
no_zero [] p l e = absurd (let z : 0 < 0 = l in omega arith)
no_zero (b ∷ []) p l e = refl
no_zero (b ∷ (c ∷ bs)) p l e = absurd (grind (arith, nat_tests))

-- a word that `decimal` writes is plain
plain : (w : List ℕ) → AllDigits 10 w → digits_value 10 w < 2 ^ 64 → length w ≤ length (decimal (digits_value 10 w)) → is_plain_word w ≡ true
plain [] all s l = refl
plain (b ∷ []) all s l = let d = digit_from_value b all.0 in grind (arith, nat_tests)
plain (b ∷ (c ∷ bs)) all s l = by (b == 48) refl
  where
    by : (t : Bool) → (b == 48) ≡ t → is_plain_word (b ∷ (c ∷ bs)) ≡ true
    by false e = let d = digit_from_value b all.0 in grind (arith, nat_tests)
    by true e =
        let same : digits_value 10 (b ∷ (c ∷ bs)) ≡ digits_value 10 (c ∷ bs) = ap (λ x. digits_value_after 10 (0 * 10 + digit_value x) (c ∷ bs)) (eqb-true b 48 e) in
        let less = short (c ∷ bs) all.1 (omega arith) (subst (λ (n : ℕ). n < 2 ^ 64) same s) in
        let f : length (decimal (digits_value 10 (b ∷ (c ∷ bs)))) ≡ length (decimal (digits_value 10 (c ∷ bs))) = ap (λ n. length (decimal n)) same in
        absurd (omega (arith, less, f, l))

-- a number that a word writes
pub record IsWritten (w : List ℕ) : Type 0 where
  pub small : digits_value 10 w ≤ most_steps
  pub written : w ≡ decimal (digits_value 10 w)

written_so : (w : List ℕ) (n : ℕ) (b : Bool) → (nat_le n most_steps && bytes_eq w (decimal n)) ≡ b → (b ≡ true → (n ≤ most_steps) × (w ≡ decimal n)) × ((n ≤ most_steps) → w ≡ decimal n → b ≡ true)
written_so w n b e = (
  λ t. both (nat_le n most_steps) (bytes_eq w (decimal n)) (e ∙ t) (leb-true n most_steps) (bytes_eq-Decides w (decimal n)).0,
  λ l s. sym e ∙ made (nat_le n most_steps) (bytes_eq w (decimal n)) (le-leb n most_steps l) ((bytes_eq-Decides w (decimal n)).1 s),
)
  where
    both : {P Q : Type 0} (x y : Bool) → (x && y) ≡ true → (x ≡ true → P) → (y ≡ true → Q) → P × Q
    both true y e p q = (p refl, q e)
    both false y e p q = cc

    made : (x y : Bool) → x ≡ true → y ≡ true → (x && y) ≡ true
    made true y e f = f
    made false y e f = cc

pub steps_written : (w : List ℕ) → IsWritten w → steps_in_word w ≡ Some (digits_value 10 w)
unfolding steps_in_word
steps_written w h =
    let test = (written_so w (digits_value 10 w) (nat_le (digits_value 10 w) most_steps && bytes_eq w (decimal (digits_value 10 w))) refl).1 h.small h.written in
    rw test refl

pub steps_not_written : (w : List ℕ) → (IsWritten w → ⊥) → steps_in_word w ≡ None
unfolding steps_in_word
steps_not_written w h =
    let test = false_from_ne_true (nat_le (digits_value 10 w) most_steps && bytes_eq w (decimal (digits_value 10 w)))
    (λ t. let so = (written_so w (digits_value 10 w) (nat_le (digits_value 10 w) most_steps && bytes_eq w (decimal (digits_value 10 w))) refl).0 t in h (record { small = so.0; written = so.1 })) in
    rw test refl

-- such a word is plain digits
small_enough : (n : ℕ) → n ≤ most_steps → n < 2 ^ 64
small_enough n l = omega arith

written_numeral : (w : List ℕ) → IsWritten w → IsNumeral 10 w
written_numeral w h = subst (λ (x : List ℕ). IsNumeral 10 x) (sym h.written) (decimal_is_IsNumeral (digits_value 10 w) (small_enough (digits_value 10 w) h.small)).0

written_plain : (w : List ℕ) → IsWritten w → is_plain_word w ≡ true
written_plain w h =
    let e = ap (λ x. length x) h.written in
    plain w (written_numeral w h).1 (small_enough (digits_value 10 w) h.small) (omega (arith, e))

pub not_plain : (w : List ℕ) → is_plain_word w ≡ false → steps_in_word w ≡ None
not_plain w e = steps_not_written w (λ h. let p = written_plain w h in cc)

-- what std reads of a plain word
abbrev pub ReadsSteps : {E : Type 0} → Result ℕ E → Option ℕ → Type 0
ReadsSteps (Ok n) steps = (n ≤ most_steps → steps ≡ Some n) × (most_steps < n → steps ≡ None)
ReadsSteps (Err e) steps = steps ≡ None

read_so : {E : Type 0} (w : List ℕ) (r : Result ℕ E) → is_plain_word w ≡ true → OkIff r (IsNumeral 10 w × (digits_value 10 w < 2 ^ 64)) (digits_value 10 w) → ReadsSteps r (steps_in_word w)
read_so w (Ok n) p h = (
  λ l. steps_written w (record { small = subst (λ (x : ℕ). x ≤ most_steps) h.1 l; written = sym (decimal-digits_value model w h.0.0.1 h.0.0.0 (no_zero w p h.0.0.0) h.0.1) }) ∙ ap Some (sym h.1),
  λ l. steps_not_written w (λ s. let small = s.small in let e = h.1 in omega (arith, small, e, l)),
)
read_so w (Err e) p h = steps_not_written w (λ s. h (written_numeral w s, small_enough (digits_value 10 w) s.small))

pub steps_read : {E : Type 0} (w : List ℕ) (r : Result ℕ E) → is_plain_word w ≡ true → ParsesUnsigned 64 10 w r → ReadsSteps r (steps_in_word w)
steps_read {E} w r p h =
    read_so w r p (subst (λ (l : List ℕ). OkIff r (IsNumeral 10 l × (digits_value 10 l < 2 ^ 64)) (digits_value 10 l)) (without_leading_plus_none w (no_plus w p)) h)
