-- Decimal digits, read one after the other: the number so far, and the digits behind it, write what all
-- write, and all are digits where those behind it are.
use Rattle.std.proofs.Common.{◌≡◌, ℕ, ◌+◌, ◌*◌, ◌-◌, ◌^◌, ◌<◌, ◌≤◌, Bool, true, false, List, [], ◌∷◌, length, get_or, drop, ◌&&◌, lt-ltb, refl, ap, sym, ◌∙◌, subst, arith, Some, None}
use Rattle.std.specs.List.{list_all}
use Rattle.std.specs.Cmp.{first_so, second_so}
use Rattle.std.specs.Char.{is_ascii_digit, is_digit, digit_value}
use Rattle.std.specs.Str.Parse.{digits_value, digits_value_after}
use Rattle.std.proofs.lemmas.Bool.{false_from_ne_true, false≢true}
use Rattle.std.proofs.lemmas.Bool.Decides.{nat_tests}
use Rattle.std.proofs.lemmas.List.{drop_all, get_or_default}
use Rattle.dh_lexer.specs.FrontPiece.{is_numeral, digits_number}
use Rattle.dh_base.proofs.ListItems.{at_item}

-- whether all are decimal digits
abbrev all_digits : List ℕ → Bool
all_digits ds = list_all (λ c. is_digit c 10) ds

pub record Reading (bytes : List ℕ) (i number : ℕ) : Type 0 where
  pub value : digits_value_after 10 number (drop i bytes) ≡ digits_value 10 bytes
  pub digits : all_digits (drop i bytes) ≡ all_digits bytes

pub reading_first : (bytes : List ℕ) → Reading bytes 0 0
reading_first bytes = record { value = refl; digits = refl }

digit_counts : (b : ℕ) → is_ascii_digit b ≡ true → digit_value b ≡ b - 48
digit_counts b e = grind (arith, nat_tests)

digit_so : (b : ℕ) → is_ascii_digit b ≡ true → is_digit b 10 ≡ true
digit_so b e = grind (arith, nat_tests)

no_digit_so : (b : ℕ) → is_ascii_digit b ≡ false → is_digit b 10 ≡ false
no_digit_so b e = grind (arith, nat_tests)

head_digit : (b : ℕ) (ds : List ℕ) → is_digit b 10 ≡ true → all_digits (b ∷ ds) ≡ all_digits ds
head_digit b ds e = rw e refl

head_other : (b : ℕ) (ds : List ℕ) → is_digit b 10 ≡ false → all_digits (b ∷ ds) ≡ false
head_other b ds e = rw e refl

-- the digits from one on
rest_is : (bytes : List ℕ) (i b : ℕ) → i < length bytes → b ≡ get_or bytes i 0 → drop i bytes ≡ b ∷ drop (i + 1) bytes
rest_is bytes i b early at = at_item bytes i b early (at ∙ get_or_default bytes i 0 b early)

pub reading_turn : (bytes : List ℕ) (i number b : ℕ) → i < length bytes → b ≡ get_or bytes i 0 → is_ascii_digit b ≡ true → Reading bytes i number
    → Reading bytes (i + 1) (number * 10 + (b - 48))
reading_turn bytes i number b early at digit h =
    let rest = rest_is bytes i b early at in
    record {
      value = ap (λ d. digits_value_after 10 (number * 10 + d) (drop (i + 1) bytes)) (sym (digit_counts b digit))
          ∙ (ap (λ l. digits_value_after 10 number l) (sym rest) ∙ h.value);
      digits = sym (head_digit b (drop (i + 1) bytes) (digit_so b digit)) ∙ (ap all_digits (sym rest) ∙ h.digits);
    }

no_numeral : (bytes : List ℕ) → all_digits bytes ≡ false → None ≡ digits_number 10 bytes
unfolding digits_number
no_numeral bytes other =
    let fails : is_numeral 10 bytes ≡ false = false_from_ne_true _ (λ e. false≢true (sym other ∙ first_so (all_digits bytes) _ (second_so _ _ e))) in rw fails refl

pub reading_bad : (bytes : List ℕ) (i number b : ℕ) → i < length bytes → b ≡ get_or bytes i 0 → is_ascii_digit b ≡ false → Reading bytes i number
    → None ≡ digits_number 10 bytes
reading_bad bytes i number b early at other h =
    no_numeral bytes (sym h.digits ∙ (ap all_digits (rest_is bytes i b early at) ∙ head_other b (drop (i + 1) bytes) (no_digit_so b other)))

both_so : (a b : Bool) → a ≡ true → b ≡ true → (a && b) ≡ true
both_so a b e f = rw (e, f) refl

numeral_is : (bytes : List ℕ) (number : ℕ) → 0 < length bytes → number < 2 ^ 64 → all_digits bytes ≡ true → number ≡ digits_value 10 bytes
    → Some number ≡ digits_number 10 bytes
unfolding digits_number
numeral_is bytes number filled small all is =
    let below : digits_value 10 bytes < 2 ^ 64 = subst (λ (n : ℕ). n < 2 ^ 64) is small in
    let numeral : is_numeral 10 bytes ≡ true = both_so _ _ (lt-ltb 0 (length bytes) filled) (both_so _ _ all (lt-ltb (digits_value 10 bytes) (2 ^ 64) below)) in
    rw numeral (ap Some is)

pub reading_end : (bytes : List ℕ) (i number : ℕ) → length bytes ≤ i → 0 < length bytes → number < 2 ^ 64 → Reading bytes i number
    → Some number ≡ digits_number 10 bytes
reading_end bytes i number late filled small h =
    let gone : drop i bytes ≡ [] = drop_all i bytes late in
    numeral_is bytes number filled small (sym h.digits ∙ ap all_digits gone) (sym (ap (λ l. digits_value_after 10 number l) gone) ∙ h.value)
