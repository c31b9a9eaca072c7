-- Sums, differences and products by the mask of their kind; words without a sign, whose values are their bits.
use Rattle.std.proofs.Common.{◌≡◌, ℕ, Bool, true, ◌-ℤ◌, ◌+◌, ◌-◌, ◌*◌, ◌%◌, ◌^◌, ◌<◌, ◌≤◌, nat_le, nat_lt, pos, int_le, int_lt, bit_and, if◌then◌else◌, refl, ap, sym, ◌∙◌, arith}
use Rattle.std.proofs.lemmas.Bool.Decides.{nat_tests}
use Rattle.std.proofs.Math.Nat.{mod-eq_of_lt}
use Rattle.std.proofs.Math.Pow.{pow_mono}
use Rattle.dh_value.specs.declared.kinds.Kind.{Kind}
use Rattle.dh_value.specs.declared.kinds.Kind.TheVariants as kind
use Rattle.dh_value.specs.declared.operators.Op.TheVariants as op
use Rattle.dh_value.specs.declared.words.Word.{Word}
use Rattle.dh_value.specs.Operations.{AreIntegers, binary_of}
use Rattle.dh_value.specs.Words.{IsKind, IsWord, residue, signed, value_in, width_of}
use Rattle.dh_value.proofs.Values.{sum_bits, difference_bits, product_bits, word_small}
use Rattle.dh_code.specs.Operated.{mask_of}
use Rattle.dh_code.proofs.OperandMasks.{masked}

module _ (a b : Word) (left : IsWord a) (right : IsWord b) (alike : AreIntegers a.kind b.kind) (mask : ℕ) (is : mask ≡ mask_of a.kind) where
  pub masked_sum : bit_and ((a.bits + b.bits) % 2 ^ 64) mask ≡ (binary_of op.Add a b).bits
  masked_sum = masked a.kind ((a.bits + b.bits) % 2 ^ 64) mask left.sized is ∙ sum_bits a.kind b.kind a.bits b.bits left.sized alike

  pub masked_difference : bit_and ((a.bits + (2 ^ 64 - b.bits)) % 2 ^ 64) mask ≡ (binary_of op.Sub a b).bits
  masked_difference = masked a.kind ((a.bits + (2 ^ 64 - b.bits)) % 2 ^ 64) mask left.sized is ∙ difference_bits a.kind b.kind a.bits b.bits left.sized alike (word_small b.kind b.bits right.sized right.fits)

  pub masked_product : bit_and ((a.bits * b.bits) % 2 ^ 64) mask ≡ (binary_of op.Mul a b).bits
  masked_product = masked a.kind ((a.bits * b.bits) % 2 ^ 64) mask left.sized is ∙ product_bits a.kind b.kind a.bits b.bits left.sized alike

pub alike_turned : (k l : Kind) → AreIntegers k l → AreIntegers l k
alike_turned (kind.Unsigned m) (kind.Unsigned n) e = sym e
alike_turned (kind.Signed m) (kind.Signed n) e = sym e
alike_turned kind.Bool l e = elim e [ ]
alike_turned (kind.Unsigned m) kind.Bool e = elim e [ ]
alike_turned (kind.Unsigned m) (kind.Signed n) e = elim e [ ]
alike_turned (kind.Signed m) kind.Bool e = elim e [ ]
alike_turned (kind.Signed m) (kind.Unsigned n) e = elim e [ ]

-- words without a sign compare as their bits do
pub bits_smaller : (w : ℕ) (l : Kind) (p q : ℕ) → AreIntegers (kind.Unsigned w) l → nat_lt p q ≡ int_lt (pos p) (value_in l q)
bits_smaller w kind.Bool p q e = elim e [ ]
bits_smaller w (kind.Unsigned n) p q e = refl
bits_smaller w (kind.Signed n) p q e = elim e [ ]

pub bits_at_most : (w : ℕ) (l : Kind) (p q : ℕ) → AreIntegers (kind.Unsigned w) l → nat_le p q ≡ int_le (pos p) (value_in l q)
bits_at_most w kind.Bool p q e = elim e [ ]
bits_at_most w (kind.Unsigned n) p q e = refl
bits_at_most w (kind.Signed n) p q e = elim e [ ]

-- the value of a natural number, modulo 2^64
pub natural_residue : (k : Kind) (n : ℕ) → IsKind k → n < 2 ^ width_of k → n ≡ residue (2 ^ 64) (pos n)
natural_residue k n sized fits = sym (mod-eq_of_lt small)
  where
    small : n < 2 ^ 64
    small = let more : 2 ^ width_of k ≤ 2 ^ 64 = pow_mono sized.1 in omega (arith, fits, more)

-- a word whose highest bit is clear has its bits as its value
pub natural_value : (w bits : ℕ) → bits < 2 ^ (w - 1) → signed w bits ≡ pos bits
natural_value w bits less = ap (λ (t : Bool). if t then pos bits else pos bits -ℤ pos (2 ^ w)) (yes bits (2 ^ (w - 1)) less)
  where
    yes : (n m : ℕ) → n < m → nat_lt n m ≡ true
    yes n m e = grind (arith, nat_tests)
