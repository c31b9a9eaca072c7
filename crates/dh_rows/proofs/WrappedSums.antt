-- What moved indices show: sums of shifts modulo 2^width show what the numbers themselves are modulo 2^width, also where
-- an offset is below 0, since its word shows its residue.
use Rattle.std.proofs.Common.{◌≡◌, ℕ, zero, suc, ◌+◌, ◌-◌, ◌*◌, ◌/◌, ◌%◌, ◌^◌, ◌<◌, ◌≤◌, ◌==◌, Bool, true, false, List, Some, None, ℤ, pos, negsuc, ◌+ℤ◌, ◌*ℤ◌, refl, sym, ap, ◌∙◌, subst, arith, length}
use Rattle.std.specs.Prelude.{Option, if◌then◌else◌}
use Rattle.std.proofs.lemmas.Bool.Decides.{nat_tests}
use Rattle.std.proofs.lemmas.Int.{ints}
use Rattle.std.proofs.lemmas.Nat.{pow_pos, mul-mod_first}
use Rattle.std.proofs.Math.Nat.{div-eq_of_lt, mod-lt, mod-add-mod}
use Rattle.dh_value.specs.declared.kinds.Kind.TheVariants as kind
use Rattle.dh_value.specs.declared.operators.Op.TheVariants as op
use Rattle.dh_value.specs.Words.{with_bits, word_of, value_of, residue}
use Rattle.dh_value.specs.Operations.{binary_of}
use Rattle.dh_value.proofs.Residues.{Above, residue_is, above_negative, above_sum, above_product}
use Rattle.dh_plan.specs.declared.operations.Operation.{Operation}
use Rattle.dh_rows.specs.Readings.{Readings, Obeys}
use Rattle.dh_rows.specs.MadeOperations.{made, summed, sum_of, constant_made, converted, computed_with, bits_in, value_shifted, value_added, added_with, bit_scaled, scaled_below, scaled, moved}
use Rattle.dh_rows.proofs.Growing.{obeys_before, obeys_plain, plain_grows, pushed_grows}
use Rattle.dh_rows.proofs.PutBehind.{shifted_behind, added_behind, bit_behind, below_behind}
use Rattle.dh_rows.proofs.CountWords.{number_cut}
use Rattle.dh_rows.proofs.CountedSums.{begun_behind, computed_shows, converted_shows, with_shows}
use Rattle.dh_rows.proofs.DigitNumbers.{high, high_on, high_off}
use Rattle.dh_rows.proofs.BitsOfNumbers.{bits_above}

-- Numbers.

-- every whole number has a natural one above it by multiples
pub above_some : (m : ℕ) (z : ℤ) → 0 < m → (n : ℕ) × Above m z n
above_some m (pos a) l = (a, record { times = 0; is = omega (arith, ints) })
above_some m (negsuc a) l = (m - 1 - a % m, above_negative m a l)

above_natural : (m k : ℕ) → Above m (pos k) k
above_natural m k = record { times = 0; is = omega (arith, ints) }

two_residues : (a b m : ℕ) → (a % m + b % m) % m ≡ (a + b) % m
two_residues a b m =
    mod-add-mod a m (b % m) ∙ (ap (λ n. n % m) (turned a (b % m)) ∙ (mod-add-mod b m a ∙ ap (λ n. n % m) (turned b a)))
  where
    turned : (a b : ℕ) → a + b ≡ b + a
    turned a b = omega arith

-- the residue of an index moved by so many times an offset
pub moved_residue : (m k p q : ℕ) (e i : ℤ) → 0 < m → Above m e p → Above m i q → residue m ((pos k *ℤ e) +ℤ i) ≡ (p * k + q) % m
unfolding above_natural
moved_residue m k p q e i l a b =
    let product = above_product m (pos k) e k p (above_natural m k) a in
    residue_is m ((pos k *ℤ e) +ℤ i) _ l (above_sum m (pos k *ℤ e) i _ q product b) ∙ ap (λ n. n % m) (same k p a.times m q)
  where
    same : (k p t m q : ℕ) → (k * p + 0 * (t * m) * m) + q ≡ p * k + q
    same k p t m q = omega arith

-- Words.

module _ (x : Readings) (width : ℕ) where
  -- a value shows what a number is modulo 2^width; none is 0
  abbrev pub Wraps : (v n : ℕ) → Type 0
  Wraps v n = x.word v ≡ with_bits (kind.Unsigned width) (n % 2 ^ width)

  abbrev pub WrapsOr : Option ℕ → (n : ℕ) → Type 0
  WrapsOr None n = n ≡ 0
  WrapsOr (Some v) n = Wraps v n

  shift_wraps : (n by : ℕ) → binary_of op.Shl (with_bits (kind.Unsigned width) (n % 2 ^ width)) (with_bits (kind.Unsigned 6) by) ≡ with_bits (kind.Unsigned width) (n * 2 ^ by % 2 ^ width)
  shift_wraps n by = number_cut width (n % 2 ^ width * 2 ^ by) (pow_pos width) ∙ ap (λ b. with_bits (kind.Unsigned width) b) (mul-mod_first n (2 ^ by) (2 ^ width))

  add_wraps : (m n : ℕ) → binary_of op.Add (with_bits (kind.Unsigned width) (m % 2 ^ width)) (with_bits (kind.Unsigned width) (n % 2 ^ width)) ≡ with_bits (kind.Unsigned width) ((m + n) % 2 ^ width)
  add_wraps m n = number_cut width (m % 2 ^ width + n % 2 ^ width) (pow_pos width) ∙ ap (λ b. with_bits (kind.Unsigned width) b) (two_residues m n (2 ^ width))

  wraps_as : (v : Option ℕ) (m n : ℕ) → m ≡ n → WrapsOr v m → WrapsOr v n
  wraps_as v m n e h = subst (λ i. WrapsOr v i) e h

  shifted_wraps : (os : List Operation) → x.first ≤ length os → (value by n : ℕ) → Wraps value n → Obeys x (value_shifted os value by).operations → Wraps (value_shifted os value by).value (n * 2 ^ by)
  shifted_wraps os begun value by n is h = of (by == 0) refl h
    where
      of : (t : Bool) → (by == 0) ≡ t → Obeys x (if t then made os value else computed_with op.Shl value (constant_made os 6 by)).operations
          → Wraps (if t then made os value else computed_with op.Shl value (constant_made os 6 by)).value (n * 2 ^ by)
      of true e g = is ∙ ap (λ m. with_bits (kind.Unsigned width) (m % 2 ^ width)) (sym (none by e))
        where
          zero_is : (by : ℕ) → (by == 0) ≡ true → by ≡ 0
          zero_is by e = grind (arith, nat_tests)

          none : (by : ℕ) → (by == 0) ≡ true → n * 2 ^ by ≡ n
          none by e = ap (λ i. n * 2 ^ i) (zero_is by e) ∙ omega arith
      of false e g = with_shows x os begun op.Shl value 6 by refl g ∙ (ap (λ w. binary_of op.Shl w (with_bits (kind.Unsigned 6) by)) is ∙ shift_wraps n by)

  pub added_wraps : (os : List Operation) → x.first ≤ length os → (sum : Option ℕ) (value m n : ℕ) → WrapsOr sum m → Wraps value n → Obeys x (value_added os sum value).operations
      → Wraps (value_added os sum value).value (m + n)
  added_wraps os begun None value m n s is h = is ∙ ap (λ i. with_bits (kind.Unsigned width) (i % 2 ^ width)) (none m s)
    where
      none : (m : ℕ) → m ≡ 0 → n ≡ m + n
      none m e = omega (arith, e)
  added_wraps os begun (Some first) value m n s is h =
      computed_shows x os begun op.Add first value refl h
      ∙ (ap (λ w. binary_of op.Add w (x.word value)) s ∙ (ap (λ w. binary_of op.Add (with_bits (kind.Unsigned width) (m % 2 ^ width)) w) is ∙ add_wraps m n))

  bit_wraps : (os : List Operation) → x.first ≤ length os → (value factor by n : ℕ) (sum : Option ℕ) → Wraps value n → WrapsOr sum (n * high factor (suc by))
      → Obeys x (bit_scaled os value factor by sum).operations → WrapsOr (bit_scaled os value factor by sum).sum (n * high factor by)
  bit_wraps os begun value factor by n sum is s h = of (factor / 2 ^ by % 2 == 1) refl h
    where
      set : (b : ℕ) → (b == 1) ≡ true → b ≡ 1
      set b e = grind (arith, nat_tests)

      unset : (b : ℕ) → b < 2 → (b == 1) ≡ false → b ≡ 0
      unset b l e = grind (arith, nat_tests)

      spread : (a p : ℕ) → n * (a + p) ≡ n * a + n * p
      spread a p = omega arith

      sums : factor / 2 ^ by % 2 ≡ 1 → n * high factor by ≡ n * high factor (suc by) + n * 2 ^ by
      sums on = ap (λ m. n * m) (high_on factor by on) ∙ spread (high factor (suc by)) (2 ^ by)

      of : (t : Bool) → (factor / 2 ^ by % 2 == 1) ≡ t → Obeys x (if t then sum_of (added_with sum (value_shifted os value by)) else summed os sum).operations
          → WrapsOr (if t then sum_of (added_with sum (value_shifted os value by)) else summed os sum).sum (n * high factor by)
      of true e g =
          let behind = plain_grows _ _ (shifted_behind os value by) in
          wraps_as (Some _) _ _ (sym (sums (set _ e)))
          (added_wraps (value_shifted os value by).operations (begun_behind x os _ behind begun) sum (value_shifted os value by).value (n * high factor (suc by)) (n * 2 ^ by) s
          (shifted_wraps os begun value by n is (obeys_plain x _ _ (added_behind _ sum _) g)) g)
      of false e g = wraps_as sum _ _ (ap (λ m. n * m) (sym (high_off factor by (unset _ (mod-lt _ (omega arith)) e)))) s

  below_wraps : (os : List Operation) → x.first ≤ length os → (value factor bits n : ℕ) (sum : Option ℕ) → Wraps value n → WrapsOr sum (n * high factor bits)
      → Obeys x (scaled_below os value factor bits sum).operations → WrapsOr (scaled_below os value factor bits sum).sum (n * factor)
  below_wraps os begun value factor zero n sum is s h = wraps_as sum _ _ (ap (λ m. n * m) (one factor)) s
    where
      one : (factor : ℕ) → high factor 0 ≡ factor
      one factor = omega arith
  below_wraps os begun value factor (suc by) n sum is s h =
      let behind = plain_grows _ _ (bit_behind os value factor by sum) in
      let more = plain_grows _ _ (below_behind (bit_scaled os value factor by sum).operations value factor by (bit_scaled os value factor by sum).sum) in
      below_wraps (bit_scaled os value factor by sum).operations (begun_behind x os _ behind begun) value factor by n (bit_scaled os value factor by sum).sum is
      (bit_wraps os begun value factor by n sum is s (obeys_before x _ _ more h)) h

  scaled_wraps : (os : List Operation) → x.first ≤ length os → (value factor n : ℕ) → factor < 2 ^ 64 → Wraps value n → Obeys x (scaled os value factor).operations
      → WrapsOr (scaled os value factor).sum (n * factor)
  scaled_wraps os begun value factor n small is h =
      below_wraps os begun value factor (bits_in factor) n None is (ap (λ q. n * (q * 2 ^ bits_in factor)) (div-eq_of_lt (bits_above factor small)) ∙ omega arith) h

  -- a value cut to the width shows the residue of its own
  cut_wraps : (os : List Operation) → x.first ≤ length os → (inner p : ℕ) → Above (2 ^ width) (value_of (x.word inner)) p → Obeys x (converted os inner width).operations
      → Wraps (converted os inner width).value p
  cut_wraps os begun inner p a h =
      converted_shows x os begun inner width h ∙ ap (λ b. with_bits (kind.Unsigned width) b) (residue_is (2 ^ width) (value_of (x.word inner)) p (pow_pos width) a)

  pub moved_shows : (os : List Operation) → x.first ≤ length os → (factor offset index : ℕ) → factor < 2 ^ 64 → Obeys x (moved os width factor offset index).operations
      → x.word (moved os width factor offset index).value ≡ word_of (kind.Unsigned width) ((pos factor *ℤ value_of (x.word offset)) +ℤ value_of (x.word index))
  moved_shows os begun factor offset index small h =
      let e = value_of (x.word offset) in
      let i = value_of (x.word index) in
      let (p, a) = above_some (2 ^ width) e (pow_pos width) in
      let (q, b) = above_some (2 ^ width) i (pow_pos width) in
      moved_wraps p q a b ∙ ap (λ n. with_bits (kind.Unsigned width) n) (sym (moved_residue (2 ^ width) factor p q e i (pow_pos width) a b))
    where
      moved_wraps : (p q : ℕ) → Above (2 ^ width) (value_of (x.word offset)) p → Above (2 ^ width) (value_of (x.word index)) q → Wraps (moved os width factor offset index).value (p * factor + q)
      moved_wraps p q a b =
          let c = converted os offset width in
          let d = converted c.operations index width in
          let s = scaled d.operations c.value factor in
          let at_c = begun_behind x os c.operations (pushed_grows os None _) begun in
          let at_d = begun_behind x c.operations d.operations (pushed_grows c.operations None _) at_c in
          let behind = below_behind d.operations c.value factor (bits_in factor) None in
          let at_s = begun_behind x d.operations s.operations (plain_grows _ _ behind) at_d in
          let obeys_s = obeys_plain x s.operations _ (added_behind s.operations s.sum d.value) h in
          let obeys_d = obeys_plain x d.operations s.operations behind obeys_s in
          let obeys_c = obeys_before x c.operations d.operations (pushed_grows c.operations None _) obeys_d in
          let offset_is = cut_wraps os begun offset p a obeys_c in
          let index_is = cut_wraps c.operations at_c index q b obeys_d in
          added_wraps s.operations at_s s.sum d.value (p * factor) q (scaled_wraps d.operations at_d c.value factor p small offset_is obeys_s) index_is h
