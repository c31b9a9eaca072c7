-- The numbers that sums of shifts show, of words of one unsigned kind, where all are numbers of the kind.
use Rattle.std.proofs.Common.{◌≡◌, ℕ, zero, suc, ◌+◌, ◌*◌, ◌/◌, ◌%◌, ◌^◌, ◌<◌, ◌≤◌, ◌==◌, Bool, true, false, List, Some, None, refl, sym, ap, ◌∙◌, subst, arith, length}
use Rattle.std.specs.Prelude.{Option, if◌then◌else◌}
use Rattle.std.proofs.lemmas.Bool.Decides.{nat_tests}
use Rattle.std.proofs.Math.Nat.{div-eq_of_lt, mul-le-mul_left, mod-lt}
use Rattle.dh_value.specs.declared.kinds.Kind.TheVariants as kind
use Rattle.dh_value.specs.declared.operators.Op.{Op}
use Rattle.dh_value.specs.declared.operators.Op.TheVariants as op
use Rattle.dh_value.specs.Words.{with_bits, word_of, value_of}
use Rattle.dh_value.specs.Operations.{binary_of}
use Rattle.dh_plan.specs.declared.operations.Operation.{Operation}
use Rattle.dh_plan.specs.declared.operations.OperationForm.TheVariants.{Compute}
use Rattle.dh_rows.specs.Readings.{Readings, Obeys, OperationsGrow, is_cheap}
use Rattle.dh_rows.specs.MadeOperations.{Summed, made, summed, sum_of, constant_made, computed, converted, computed_with, bits_in, value_shifted, value_added, added_with, bit_scaled, scaled_below, scaled, times, digit_behind, digit_added, or_zero}
use Rattle.dh_rows.proofs.Growing.{grown_length, obeys_before, obeys_plain, plain_grows, pushed_word, pushed_grows}
use Rattle.dh_rows.proofs.PutBehind.{shifted_behind, added_behind, bit_behind, below_behind, times_behind, behind_behind}
use Rattle.dh_rows.proofs.CountWords.{add_count, shift_count}
use Rattle.dh_rows.proofs.DigitNumbers.{high, high_on, high_off, high_most}
use Rattle.dh_rows.proofs.BitsOfNumbers.{bits_above}

module _ (x : Readings) where
  pub begun_behind : (a b : List Operation) → OperationsGrow a b → x.first ≤ length a → x.first ≤ length b
  begun_behind a b g l = let m = grown_length a b g in omega (arith, l, m)

  pub constant_shows : (os : List Operation) → x.first ≤ length os → (width number : ℕ) → Obeys x (constant_made os width number).operations
      → x.word (constant_made os width number).value ≡ with_bits (kind.Unsigned width) number
  constant_shows os begun width number h = pushed_word x os _ refl begun h

  pub computed_shows : (os : List Operation) → x.first ≤ length os → (o : Op) (left right : ℕ) → is_cheap o ≡ true → Obeys x (computed os o left right).operations
      → x.word (computed os o left right).value ≡ binary_of o (x.word left) (x.word right)
  computed_shows os begun o left right cheap h = pushed_word x os (Compute o left right) cheap begun h

  pub converted_shows : (os : List Operation) → x.first ≤ length os → (inner width : ℕ) → Obeys x (converted os inner width).operations
      → x.word (converted os inner width).value ≡ word_of (kind.Unsigned width) (value_of (x.word inner))
  converted_shows os begun inner width h = pushed_word x os _ refl begun h

  -- an operator with a constant
  pub with_shows : (os : List Operation) → x.first ≤ length os → (o : Op) (left width number : ℕ) → is_cheap o ≡ true → Obeys x (computed_with o left (constant_made os width number)).operations
      → x.word (computed_with o left (constant_made os width number)).value ≡ binary_of o (x.word left) (with_bits (kind.Unsigned width) number)
  with_shows os begun o left width number cheap h =
      computed_shows (constant_made os width number).operations (begun_behind os _ (pushed_grows os None _) begun) o left (constant_made os width number).value cheap h
      ∙ ap (λ w. binary_of o (x.word left) w) (constant_shows os begun width number (obeys_before x _ _ (pushed_grows _ None _) h))

module _ (x : Readings) (width : ℕ) where
  -- a value shows a number of the kind; none is 0
  abbrev pub Counts : (v n : ℕ) → Type 0
  Counts v n = x.word v ≡ with_bits (kind.Unsigned width) n

  abbrev pub CountsOr : Option ℕ → (n : ℕ) → Type 0
  CountsOr None n = n ≡ 0
  CountsOr (Some v) n = Counts v n

  pub shifted_counts : (os : List Operation) → x.first ≤ length os → (value by n : ℕ) → n * 2 ^ by < 2 ^ width → Counts value n → Obeys x (value_shifted os value by).operations → Counts (value_shifted os value by).value (n * 2 ^ by)
  shifted_counts os begun value by n fits is h = of (by == 0) refl h
    where
      of : (t : Bool) → (by == 0) ≡ t → Obeys x (if t then made os value else computed_with op.Shl value (constant_made os 6 by)).operations
          → Counts (if t then made os value else computed_with op.Shl value (constant_made os 6 by)).value (n * 2 ^ by)
      of true e g = is ∙ ap (λ m. with_bits (kind.Unsigned width) m) (sym (none by e))
        where
          zero_is : (by : ℕ) → (by == 0) ≡ true → by ≡ 0
          zero_is by e = grind (arith, nat_tests)

          none : (by : ℕ) → (by == 0) ≡ true → n * 2 ^ by ≡ n
          none by e = ap (λ i. n * 2 ^ i) (zero_is by e) ∙ omega arith
      of false e g = with_shows x os begun op.Shl value 6 by refl g ∙ (ap (λ w. binary_of op.Shl w (with_bits (kind.Unsigned 6) by)) is ∙ shift_count width n by fits)

  pub added_counts : (os : List Operation) → x.first ≤ length os → (sum : Option ℕ) (value m n : ℕ) → m + n < 2 ^ width → CountsOr sum m → Counts value n → Obeys x (value_added os sum value).operations
      → Counts (value_added os sum value).value (m + n)
  added_counts os begun None value m n fits s is h = is ∙ ap (λ i. with_bits (kind.Unsigned width) i) (none m s)
    where
      none : (m : ℕ) → m ≡ 0 → n ≡ m + n
      none m e = omega (arith, e)
  added_counts os begun (Some first) value m n fits s is h =
      computed_shows x os begun op.Add first value refl h ∙ (ap (λ w. binary_of op.Add w (x.word value)) s ∙ (ap (λ w. binary_of op.Add (with_bits (kind.Unsigned width) m) w) is ∙ add_count width m n fits))

  counts_as : (v : Option ℕ) (m n : ℕ) → m ≡ n → CountsOr v m → CountsOr v n
  counts_as v m n e h = subst (λ i. CountsOr v i) e h

  bit_counts : (os : List Operation) → x.first ≤ length os → (value factor by n : ℕ) (sum : Option ℕ) → n * factor < 2 ^ width → Counts value n → CountsOr sum (n * high factor (suc by))
      → Obeys x (bit_scaled os value factor by sum).operations → CountsOr (bit_scaled os value factor by sum).sum (n * high factor by)
  bit_counts os begun value factor by n sum fits is s h = of (factor / 2 ^ by % 2 == 1) refl h
    where
      set : (b : ℕ) → (b == 1) ≡ true → b ≡ 1
      set b e = grind (arith, nat_tests)

      unset : (b : ℕ) → b < 2 → (b == 1) ≡ false → b ≡ 0
      unset b l e = grind (arith, nat_tests)

      spread : (a p : ℕ) → n * (a + p) ≡ n * a + n * p
      spread a p = omega arith

      sums : factor / 2 ^ by % 2 ≡ 1 → n * high factor by ≡ n * high factor (suc by) + n * 2 ^ by
      sums on = ap (λ m. n * m) (high_on factor by on) ∙ spread (high factor (suc by)) (2 ^ by)

      most : n * high factor by ≤ n * factor
      most = mul-le-mul_left n (high_most factor by)

      of : (t : Bool) → (factor / 2 ^ by % 2 == 1) ≡ t → Obeys x (if t then sum_of (added_with sum (value_shifted os value by)) else summed os sum).operations
          → CountsOr (if t then sum_of (added_with sum (value_shifted os value by)) else summed os sum).sum (n * high factor by)
      of true e g =
          let two = sums (set _ e) in
          let l = most in
          let both : n * high factor (suc by) + n * 2 ^ by < 2 ^ width = omega (arith, two, l, fits) in
          let one : n * 2 ^ by < 2 ^ width = omega (arith, both) in
          let behind = plain_grows _ _ (shifted_behind os value by) in
          counts_as (Some _) _ _ (sym two)
          (added_counts (value_shifted os value by).operations (begun_behind x os _ behind begun) sum (value_shifted os value by).value (n * high factor (suc by)) (n * 2 ^ by) both s
          (shifted_counts os begun value by n one is (obeys_plain x _ _ (added_behind _ sum _) g)) g)
      of false e g = counts_as sum _ _ (ap (λ m. n * m) (sym (high_off factor by (unset _ (mod-lt _ (omega arith)) e)))) s

  below_counts : (os : List Operation) → x.first ≤ length os → (value factor bits n : ℕ) (sum : Option ℕ) → n * factor < 2 ^ width → Counts value n → CountsOr sum (n * high factor bits)
      → Obeys x (scaled_below os value factor bits sum).operations → CountsOr (scaled_below os value factor bits sum).sum (n * factor)
  below_counts os begun value factor zero n sum fits is s h = counts_as sum _ _ (ap (λ m. n * m) (one factor)) s
    where
      one : (factor : ℕ) → high factor 0 ≡ factor
      one factor = omega arith
  below_counts os begun value factor (suc by) n sum fits is s h =
      let behind = plain_grows _ _ (bit_behind os value factor by sum) in
      let more = plain_grows _ _ (below_behind (bit_scaled os value factor by sum).operations value factor by (bit_scaled os value factor by sum).sum) in
      below_counts (bit_scaled os value factor by sum).operations (begun_behind x os _ behind begun) value factor by n (bit_scaled os value factor by sum).sum fits is
      (bit_counts os begun value factor by n sum fits is s (obeys_before x _ _ more h)) h

  pub scaled_counts : (os : List Operation) → x.first ≤ length os → (value factor n : ℕ) → factor < 2 ^ 64 → n * factor < 2 ^ width → Counts value n → Obeys x (scaled os value factor).operations
      → CountsOr (scaled os value factor).sum (n * factor)
  scaled_counts os begun value factor n small fits is h =
      below_counts os begun value factor (bits_in factor) n None fits is (ap (λ q. n * (q * 2 ^ bits_in factor)) (div-eq_of_lt (bits_above factor small)) ∙ omega arith) h

  pub times_counts : (os : List Operation) → x.first ≤ length os → (sum : Option ℕ) (factor n : ℕ) → factor < 2 ^ 64 → n * factor < 2 ^ width → CountsOr sum n → Obeys x (times os sum factor).operations
      → CountsOr (times os sum factor).sum (n * factor)
  times_counts os begun None factor n small fits s h = ap (λ m. m * factor) s ∙ omega arith
  times_counts os begun (Some sum) factor n small fits s h = scaled_counts os begun sum factor n small fits s h

  behind_counts : (m : Summed) → x.first ≤ length m.operations → (digit : Option ℕ) (s n : ℕ) → s + n < 2 ^ width → CountsOr m.sum s → CountsOr digit n → Obeys x (digit_behind m digit).operations
      → CountsOr (digit_behind m digit).sum (s + n)
  behind_counts m begun None s n fits is d h = counts_as m.sum s (s + n) (none n d) is
    where
      none : (n : ℕ) → n ≡ 0 → s ≡ s + n
      none n e = omega (arith, e)
  behind_counts m begun (Some digit) s n fits is d h = added_counts m.operations begun m.sum digit s n fits is d h

  pub digit_counts : (os : List Operation) → x.first ≤ length os → (sum : Option ℕ) (factor : ℕ) (digit : Option ℕ) (s n : ℕ) → factor < 2 ^ 64 → s * factor + n < 2 ^ width → CountsOr sum s → CountsOr digit n
      → Obeys x (digit_added os sum factor digit).operations → CountsOr (digit_added os sum factor digit).sum (s * factor + n)
  digit_counts os begun sum factor digit s n small fits is d h =
      behind_counts (times os sum factor) (begun_behind x os _ (plain_grows _ _ (times_behind os sum factor)) begun) digit (s * factor) n fits
      (times_counts os begun sum factor s small (omega (arith, fits)) is (obeys_plain x _ _ (behind_behind (times os sum factor) digit) h)) d h

  pub or_zero_counts : (os : List Operation) → x.first ≤ length os → (value : Option ℕ) (n : ℕ) → CountsOr value n → Obeys x (or_zero os width value).operations → Counts (or_zero os width value).value n
  or_zero_counts os begun None n is h = constant_shows x os begun width 0 h ∙ ap (λ i. with_bits (kind.Unsigned width) i) (sym is)
  or_zero_counts os begun (Some value) n is h = is
