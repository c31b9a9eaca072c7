-- Values of words. Each lies 0 or 1 times 2 ^ width below its bits, so the bits are its residue, and
-- the residue of a sum, a difference or a product of values is that of the same of their bits.
use Rattle.std.proofs.Common.{◌≡◌, ℕ, ◌+◌, ◌-◌, ◌*◌, ◌/◌, ◌%◌, ◌^◌, ◌<◌, ◌≤◌, Bool, true, false, nat_lt, if◌then◌else◌, ℤ, pos, negsuc, int_lt, bit_or, ◌+ℤ◌, ◌-ℤ◌, ◌*ℤ◌, refl, sym, ap, subst, ◌∙◌, arith}
use Rattle.std.specs.Int.{int_div_euclid}
use Rattle.std.proofs.lemmas.Int.{ints}
use Rattle.std.proofs.lemmas.Nat.{pow_pos, shr_le}
use Rattle.std.proofs.Math.Nat.{mod-eq_of_lt, add-mul-mod_self_right}
use Rattle.dh_value.proofs.Masks.{whole, cut_first, shl_none, high_set}
use Rattle.std.proofs.Math.Pow.{pow_mono}
use Rattle.dh_value.proofs.Residues.{Above, residue_is, residue_small, above_sum, above_difference, above_product, above_negative, above_coarser}
use Rattle.dh_value.specs.declared.kinds.Kind.{Kind}
use Rattle.dh_value.specs.declared.kinds.Kind.TheVariants as kind
use Rattle.dh_value.specs.Words.{width_of, IsKind, IsInteger, signed, value_in, residue}
use Rattle.dh_value.specs.Operations.{AreIntegers}

above_itself : (m n : ℕ) → Above m (pos n) n
above_itself m n = record { times = 0; is = omega (arith, ints) }

above_signed : (w n : ℕ) → Above (2 ^ w) (signed w n) n
above_signed w n = by (nat_lt n (2 ^ (w - 1)))
  where
    by : (t : Bool) → Above (2 ^ w) (if t then pos n else pos n -ℤ pos (2 ^ w)) n
    by true = above_itself (2 ^ w) n
    by false = record { times = 1; is = omega (arith, ints) }

pub above_value : (k : Kind) (n : ℕ) → Above (2 ^ width_of k) (value_in k n) n
above_value kind.Bool n = above_itself 2 n
above_value (kind.Unsigned w) n = above_itself (2 ^ w) n
above_value (kind.Signed w) n = above_signed w n

-- the bits of a word are the residue of its value
pub value_residue : (k : Kind) (n : ℕ) → n < 2 ^ width_of k → residue (2 ^ width_of k) (value_in k n) ≡ n
value_residue k n h = residue_small (2 ^ width_of k) (value_in k n) n (above_value k n) h

-- every word fits 64 bits
pub word_small : (k : Kind) (n : ℕ) → IsKind k → n < 2 ^ width_of k → n ≤ 2 ^ 64
word_small k n sized h = let more : 2 ^ width_of k ≤ 2 ^ 64 = pow_mono sized.1 in omega arith

pub integer_width : (k : Kind) → IsInteger k → IsKind k
integer_width kind.Bool i = elim i [ ]
integer_width (kind.Unsigned w) i = i
integer_width (kind.Signed w) i = i

pub same_width : (k l : Kind) → AreIntegers k l → width_of l ≡ width_of k
same_width (kind.Unsigned m) (kind.Unsigned n) e = sym e
same_width (kind.Signed m) (kind.Signed n) e = sym e
same_width kind.Bool l e = elim e [ ]
same_width (kind.Unsigned m) kind.Bool e = elim e [ ]
same_width (kind.Unsigned m) (kind.Signed n) e = elim e [ ]
same_width (kind.Signed m) kind.Bool e = elim e [ ]
same_width (kind.Signed m) (kind.Unsigned n) e = elim e [ ]

module _ (k l : Kind) (p q : ℕ) (sized : IsKind k) (alike : AreIntegers k l) where
  second : Above (2 ^ width_of k) (value_in l q) q
  second = subst (λ w. Above (2 ^ w) (value_in l q) q) (same_width k l alike) (above_value l q)

  pub sum_bits : (p + q) % 2 ^ 64 % 2 ^ width_of k ≡ residue (2 ^ width_of k) (value_in k p +ℤ value_in l q)
  sum_bits =
      cut_first (p + q) (width_of k) sized.1
      ∙ sym (residue_is (2 ^ width_of k) _ _ (pow_pos (width_of k)) (above_sum _ _ _ _ _ (above_value k p) second))

  pub difference_bits : q ≤ 2 ^ 64 → (p + (2 ^ 64 - q)) % 2 ^ 64 % 2 ^ width_of k ≡ residue (2 ^ width_of k) (value_in k p -ℤ value_in l q)
  difference_bits h =
      cut_first (p + (2 ^ 64 - q)) (width_of k) sized.1
      ∙ sym (add-mul-mod_self_right (p + (2 ^ 64 - q)) second.times (2 ^ width_of k))
      ∙ sym (residue_is (2 ^ width_of k) _ _ (pow_pos (width_of k)) (above_difference _ _ _ _ _ (above_value k p) second (2 ^ 64) (2 ^ (64 - width_of k)) (whole (width_of k) sized.1) h))

  pub product_bits : (p * q) % 2 ^ 64 % 2 ^ width_of k ≡ residue (2 ^ width_of k) (value_in k p *ℤ value_in l q)
  product_bits =
      let a = above_value k p in
      cut_first (p * q) (width_of k) sized.1
      ∙ sym (add-mul-mod_self_right (p * q) (a.times * (second.times * 2 ^ width_of k)) (2 ^ width_of k))
      ∙ sym (residue_is (2 ^ width_of k) _ _ (pow_pos (width_of k)) (above_product _ _ _ _ _ a second))

module _ (k : Kind) (p by : ℕ) where
  shifted : residue (2 ^ width_of k) (value_in k p *ℤ pos (2 ^ by)) ≡ (p * 2 ^ by) % 2 ^ width_of k
  shifted =
      residue_is (2 ^ width_of k) _ _ (pow_pos (width_of k)) (above_product _ _ _ _ _ (above_value k p) (above_itself (2 ^ width_of k) (2 ^ by)))
      ∙ add-mul-mod_self_right (p * 2 ^ by) ((above_value k p).times * ((above_itself (2 ^ width_of k) (2 ^ by)).times * 2 ^ width_of k)) (2 ^ width_of k)

  pub shl_bits : IsKind k → (p * 2 ^ by) % 2 ^ 64 % 2 ^ width_of k ≡ residue (2 ^ width_of k) (value_in k p *ℤ pos (2 ^ by))
  shl_bits sized = cut_first (p * 2 ^ by) (width_of k) sized.1 ∙ sym shifted

  pub shl_nothing : width_of k ≤ by → 0 ≡ residue (2 ^ width_of k) (value_in k p *ℤ pos (2 ^ by))
  shl_nothing h = sym (shifted ∙ shl_none p by (width_of k) h)

-- a negative word lies 2 ^ width below its bits, any other at its bits
pub negative_value : (k : Kind) (n : ℕ) → int_lt (value_in k n) (pos 0) ≡ true → value_in k n ≡ pos n -ℤ pos (2 ^ width_of k)
negative_value kind.Bool n e = absurd (omega (arith, ints))
negative_value (kind.Unsigned w) n e = absurd (omega (arith, ints))
negative_value (kind.Signed w) n e = by (nat_lt n (2 ^ (w - 1))) e
  where
    by : (t : Bool) → int_lt (if t then pos n else pos n -ℤ pos (2 ^ w)) (pos 0) ≡ true → (if t then pos n else pos n -ℤ pos (2 ^ w)) ≡ pos n -ℤ pos (2 ^ w)
    by true e = absurd (omega (arith, ints))
    by false e = refl

pub other_value : (k : Kind) (n : ℕ) → n < 2 ^ width_of k → int_lt (value_in k n) (pos 0) ≡ false → value_in k n ≡ pos n
other_value kind.Bool n h e = refl
other_value (kind.Unsigned w) n h e = refl
other_value (kind.Signed w) n h e = by (nat_lt n (2 ^ (w - 1))) e
  where
    by : (t : Bool) → int_lt (if t then pos n else pos n -ℤ pos (2 ^ w)) (pos 0) ≡ false → (if t then pos n else pos n -ℤ pos (2 ^ w)) ≡ pos n
    by true e = refl
    by false e = absurd (omega (arith, ints))

-- the sign set in every higher bit
pub extended_bits : (k : Kind) (n last : ℕ) → IsKind k → n < 2 ^ width_of k → int_lt (value_in k n) (pos 0) ≡ true → last ≡ 2 ^ width_of k - 1 → bit_or n (2 ^ 64 - 1 - last) ≡ residue (2 ^ 64) (value_in k n)
extended_bits k n last sized h e is =
    let m = 2 ^ width_of k in
    let most : m ≤ 2 ^ 64 = pow_mono sized.1 in
    let below : Above (2 ^ 64) (value_in k n) (n + (2 ^ 64 - m)) = record { times = 1; is = ap (λ z. z +ℤ pos (1 * 2 ^ 64)) (negative_value k n e) ∙ up_by n m (2 ^ 64) most } in
    ap (λ l. bit_or n (2 ^ 64 - 1 - l)) is ∙ high_set n (width_of k) sized.1 h ∙ sym (residue_small (2 ^ 64) (value_in k n) _ below (omega arith))
  where
    up_by : (n m v : ℕ) → m ≤ v → (pos n -ℤ pos m) +ℤ pos (1 * v) ≡ pos (n + (v - m))
    up_by n m v h = omega (arith, ints)

-- a residue of a residue
pub residue_cut : (z : ℤ) (w : ℕ) → w ≤ 64 → residue (2 ^ 64) z % 2 ^ w ≡ residue (2 ^ w) z
residue_cut (pos a) w h = cut_first a w h
residue_cut (negsuc a) w h = sym (residue_is (2 ^ w) (negsuc a) _ (pow_pos w) (above_coarser (2 ^ 64) (2 ^ w) (2 ^ (64 - w)) (negsuc a) _ (whole w h) (above_negative (2 ^ 64) a (omega arith))))

module _ (k : Kind) (n by : ℕ) (h : n < 2 ^ width_of k) where
  pub shr_other : int_lt (value_in k n) (pos 0) ≡ false → n / 2 ^ by ≡ residue (2 ^ width_of k) (int_div_euclid (value_in k n) (pos (2 ^ by)))
  shr_other e =
      let small : n / 2 ^ by < 2 ^ width_of k = omega (arith, shr_le n by) in
      sym (ap (λ z. residue (2 ^ width_of k) (int_div_euclid z (pos (2 ^ by)))) (other_value k n h e) ∙ mod-eq_of_lt small)

  pub shr_negative : (last : ℕ) → int_lt (value_in k n) (pos 0) ≡ true → last ≡ 2 ^ width_of k - 1 → last - (last - n) / 2 ^ by ≡ residue (2 ^ width_of k) (int_div_euclid (value_in k n) (pos (2 ^ by)))
  shr_negative last e is =
      let m = 2 ^ width_of k in
      let d = 2 ^ by in
      let value : value_in k n ≡ negsuc (m - 1 - n) = negative_value k n e ∙ complement n m h in
      let small : (m - 1 - n) / d < m = omega (arith, shr_le (m - 1 - n) by) in
      let cut : (m - 1 - n) / d % m ≡ (m - 1 - n) / d = mod-eq_of_lt small in
      ap (λ l. l - (l - n) / d) is ∙ sym (ap (λ z. residue m (int_div_euclid z (pos d))) value ∙ ap (λ q. m - 1 - q) cut)
    where
      complement : (n m : ℕ) → n < m → pos n -ℤ pos m ≡ negsuc (m - 1 - n)
      complement n m h = omega (arith, ints)
