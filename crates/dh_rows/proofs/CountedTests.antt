-- What tests show. Without its sign a number below 0 is at least half of all numbers of its width, so one comparison
-- of numbers without sign tells whether an index is from 0 on and below a size.
use Rattle.std.proofs.Common.{◌≡◌, ℕ, ◌-◌, ◌^◌, ◌<◌, ◌≤◌, ◌&&◌, min, nat_le, nat_lt, Bool, true, false, List, None, pos, ◌-ℤ◌, int_le, int_lt, refl, sym, ap, ◌∙◌, subst, arith, length}
use Rattle.std.specs.Prelude.{Option, if◌then◌else◌}
use Rattle.std.proofs.lemmas.Bool.Decides.{nat_tests}
use Rattle.std.proofs.lemmas.Int.{ints}
use Rattle.dh_value.specs.declared.kinds.Kind.{Kind}
use Rattle.dh_value.specs.declared.kinds.Kind.TheVariants as kind
use Rattle.dh_value.specs.declared.operators.Op.TheVariants as op
use Rattle.dh_value.specs.declared.words.Word.{Word}
use Rattle.dh_value.specs.Words.{IsInteger, IsWord, signed, value_of, value_in, with_bits, width_of, residue}
use Rattle.dh_value.specs.Operations.{binary_of}
use Rattle.dh_value.proofs.Values.{value_residue}
use Rattle.dh_plan.specs.declared.operations.Operation.{Operation}
use Rattle.dh_rows.specs.Readings.{Readings, Obeys}
use Rattle.dh_rows.specs.RowsShown.{HoldsOrNone, TestsValue, is_below_size}
use Rattle.dh_rows.specs.MadeOperations.{summed, sum_of, constant_made, converted, computed_with, bounded, value_tested}
use Rattle.dh_rows.proofs.Growing.{obeys_plain, plain_self, plain_on, plain_pushed, pushed_grows}
use Rattle.dh_rows.proofs.PutBehind.{with_behind}
use Rattle.dh_rows.proofs.PutSpread.{makes_tested}
use Rattle.dh_rows.proofs.CountedSums.{Counts, begun_behind, converted_shows, with_shows}
use Rattle.dh_rows.specs.Readings.{GrowsPlain}

less_as : (n m bound : ℕ) → n < m → nat_le m bound ≡ true → nat_lt n bound ≡ true
less_as n m bound l e = grind (arith, nat_tests)

natural_range : (n size : ℕ) → is_below_size (pos n) size ≡ nat_lt n size
natural_range n size = ap (λ t. t && nat_lt n size) (zero_least n)
  where
    zero_least : (n : ℕ) → nat_le 0 n ≡ true
    zero_least n = grind (arith, nat_tests)

-- a number of w bits with a sign
signed_range : (w n size : ℕ) → 1 ≤ w → n < 2 ^ w → is_below_size (signed w n) size ≡ nat_lt n (min size (2 ^ (w - 1)))
signed_range w n size some small = of (nat_lt n (2 ^ (w - 1))) refl
  where
    near : nat_lt n (2 ^ (w - 1)) ≡ true → nat_lt n size ≡ nat_lt n (min size (2 ^ (w - 1)))
    near e = grind (arith, nat_tests)

    far : nat_lt n (2 ^ (w - 1)) ≡ false → false ≡ nat_lt n (min size (2 ^ (w - 1)))
    far e = grind (arith, nat_tests)

    negative : (n m : ℕ) → n < m → (int_le (pos 0) (pos n -ℤ pos m) && int_lt (pos n -ℤ pos m) (pos size)) ≡ false
    negative n m l = ap (λ t. t && int_lt (pos n -ℤ pos m) (pos size)) (below n m l)
      where
        below : (n m : ℕ) → n < m → int_le (pos 0) (pos n -ℤ pos m) ≡ false
        below n m l = of (int_le (pos 0) (pos n -ℤ pos m)) refl
          where
            of : (t : Bool) → int_le (pos 0) (pos n -ℤ pos m) ≡ t → t ≡ false
            of true e = absurd (omega (arith, ints, e, l))
            of false e = refl

    of : (t : Bool) → nat_lt n (2 ^ (w - 1)) ≡ t → is_below_size (if t then pos n else pos n -ℤ pos (2 ^ w)) size ≡ nat_lt n (min size (2 ^ (w - 1)))
    of true e = natural_range n size ∙ near e
    of false e = negative n (2 ^ w) small ∙ far e

bounded_behind : (os : List Operation) (width value bound : ℕ) → GrowsPlain os (bounded os width value bound).operations
bounded_behind os width value bound = of (nat_le (2 ^ width) bound)
  where
    of : (t : Bool) → GrowsPlain os (if t then summed os None else sum_of (computed_with op.Lt value (constant_made os width bound))).operations
    of true = plain_self os
    of false = with_behind os op.Lt value width bound refl

pub tested_behind : (os : List Operation) (k : Kind) (value size : ℕ) → GrowsPlain os (value_tested os k value size).operations
tested_behind os kind.Bool value size = plain_self os
tested_behind os (kind.Unsigned w) value size = bounded_behind os w value size
tested_behind os (kind.Signed w) value size =
    plain_on os (converted os value w).operations _ (plain_pushed os _ refl) (bounded_behind (converted os value w).operations w (converted os value w).value (min size (2 ^ (w - 1))))

pub tested_grows : (os : List Operation) (k : Kind) (value size : ℕ) (new : List Operation) (test : Option ℕ)
    → (new ≡ (value_tested os k value size).operations) × (test ≡ (value_tested os k value size).sum) → GrowsPlain os new
tested_grows os k value size new test e = subst (λ (l : List Operation). GrowsPlain os l) (sym e.0) (tested_behind os k value size)

module _ (x : Readings) where
  bounded_holds : (os : List Operation) → x.first ≤ length os → (width value bound n : ℕ) → n < 2 ^ width → Counts x width value n → Obeys x (bounded os width value bound).operations
      → HoldsOrNone x (bounded os width value bound).sum (nat_lt n bound)
  bounded_holds os begun width value bound n small is h = of (nat_le (2 ^ width) bound) refl h
    where
      of : (t : Bool) → nat_le (2 ^ width) bound ≡ t → Obeys x (if t then summed os None else sum_of (computed_with op.Lt value (constant_made os width bound))).operations
          → HoldsOrNone x (if t then summed os None else sum_of (computed_with op.Lt value (constant_made os width bound))).sum (nat_lt n bound)
      of true e g = less_as n (2 ^ width) bound small e
      of false e g = with_shows x os begun op.Lt value width bound refl g ∙ ap (λ w. binary_of op.Lt w (with_bits (kind.Unsigned width) bound)) is

  as_bits : (w : Word) (k : Kind) → w.kind ≡ k → w ≡ with_bits k w.bits
  as_bits w k e = ap (λ j. with_bits j w.bits) e

  fits_kind : (w : Word) (k : Kind) → IsWord w → w.kind ≡ k → w.bits < 2 ^ width_of k
  fits_kind w k h e = subst (λ j. w.bits < 2 ^ width_of j) e h.fits

  value_kind : (w : Word) (k : Kind) → w.kind ≡ k → value_in k w.bits ≡ value_of w
  value_kind w k e = ap (λ j. value_in j w.bits) (sym e)

  range_as : (v : Option ℕ) (a b : Bool) → a ≡ b → HoldsOrNone x v a → HoldsOrNone x v b
  range_as v a b e h = subst (λ t. HoldsOrNone x v t) e h

  tested_holds : (k : Kind) (os : List Operation) → x.first ≤ length os → (value size : ℕ) → IsInteger k → IsWord (x.word value) → (x.word value).kind ≡ k → Obeys x (value_tested os k value size).operations
      → HoldsOrNone x (value_tested os k value size).sum (is_below_size (value_of (x.word value)) size)
  tested_holds kind.Bool os begun value size sized word e h = elim sized [ ]
  tested_holds (kind.Unsigned w) os begun value size sized word e h =
      range_as (bounded os w value size).sum (nat_lt (x.word value).bits size) (is_below_size (value_of (x.word value)) size)
      (sym (natural_range (x.word value).bits size) ∙ ap (λ z. is_below_size z size) (value_kind (x.word value) (kind.Unsigned w) e))
      (bounded_holds os begun w value size (x.word value).bits (fits_kind (x.word value) (kind.Unsigned w) word e) (as_bits (x.word value) (kind.Unsigned w) e) h)
  tested_holds (kind.Signed w) os begun value size sized word e h =
      let small = fits_kind (x.word value) (kind.Signed w) word e in
      range_as (value_tested os (kind.Signed w) value size).sum (nat_lt (x.word value).bits (min size (2 ^ (w - 1)))) _
      (sym (signed_range w (x.word value).bits size sized.0 small) ∙ ap (λ z. is_below_size z size) (value_kind (x.word value) (kind.Signed w) e))
      (bounded_holds (converted os value w).operations (begun_behind x os _ (pushed_grows os None _) begun) w (converted os value w).value (min size (2 ^ (w - 1))) (x.word value).bits small shown h)
    where
      shown : Counts x w (converted os value w).value (x.word value).bits
      shown =
          converted_shows x os begun value w (obeys_plain x _ _ (bounded_behind (converted os value w).operations w (converted os value w).value (min size (2 ^ (w - 1)))) h)
          ∙ ap (λ b. with_bits (kind.Unsigned w) b)
          (ap (λ z. residue (2 ^ w) z) (sym (value_kind (x.word value) (kind.Signed w) e)) ∙ value_residue (kind.Signed w) (x.word value).bits (fits_kind (x.word value) (kind.Signed w) word e))

module _ (k : Kind) (value size : ℕ) (old : List Operation) (sized : IsInteger k) where
  test_made : TestsValue k value size old (value_tested old k value size).operations (value_tested old k value size).sum
  test_made = record {
    adds = λ x clock begun h. (makes_tested x clock old begun k value size sized h).adds;
    stands = λ x clock begun h. (makes_tested x clock old begun k value size sized h).sum;
    shown = λ x begun obeys word e. tested_holds x k old begun value size sized word e obeys;
  }

  pub test_made_as : (new : List Operation) (test : Option ℕ) → (new ≡ (value_tested old k value size).operations) × (test ≡ (value_tested old k value size).sum) → TestsValue k value size old new test
  test_made_as new test e =
      subst (λ os. TestsValue k value size old os test) (sym e.0) (subst (λ t. TestsValue k value size old (value_tested old k value size).operations t) (sym e.1) test_made)
