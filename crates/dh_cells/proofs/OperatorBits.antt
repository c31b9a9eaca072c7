-- What cells make of bits is what operators make of words.
-- Sums, differences, products and shifts of bits have the residues of those of the values, whether these are in
-- two's complement or not; two values of one kind are equal where their bits are; and a truth is its bit.
use Rattle.std.proofs.Common.{◌≡◌, ℕ, zero, suc, ◌+◌, ◌<◌, ◌≤◌, ◌-◌, ◌*◌, ◌%◌, ◌^◌, ◌⊎◌, inl, inr, Bool, true, false, not, ℤ, pos, ◌+ℤ◌, int_lt, bit_and, bit_or, refl, sym, ap, subst, ◌∙◌, arith}
use Rattle.std.specs.Prelude.{◌==◌, ◌&&◌, ◌||◌, int_le}
use Rattle.std.specs.Ordering.{int_eq}
use Rattle.std.proofs.lemmas.Bool.Decides.{nat_tests}
use Rattle.std.proofs.lemmas.Int.{ints}
use Rattle.std.proofs.lemmas.Nat.{pow_pos, pow-add}
use Rattle.std.proofs.Math.Pow.{pow_mono}
use Rattle.dh_value.specs.declared.kinds.Kind.{Kind}
use Rattle.dh_value.specs.declared.kinds.Kind.TheVariants as kind
use Rattle.dh_value.specs.declared.operators.Op.{Op}
use Rattle.dh_value.specs.declared.operators.Op.TheVariants as op
use Rattle.dh_value.specs.Words.{width_of, IsKind, value_in, with_bits, word_of, residue}
use Rattle.dh_value.specs.Operations.{AreIntegers, AreAlike, Suits, binary_of}
use Rattle.dh_value.proofs.Residues.{residue_is, above_sum, above_coarser}
use Rattle.dh_value.proofs.Values.{above_value, value_residue, word_small, sum_bits, difference_bits, product_bits, shl_bits}
use Rattle.dh_net.specs.Clock.{unsigned_result, shifted}
use Rattle.dh_cells.specs.ShownValues.{bit}

-- Truths.

two : (a : ℕ) → a < 2 ^ 1 → (a ≡ 0) ⊎ (a ≡ 1)
two zero h = inl refl
two (suc zero) h = inr refl
two (suc (suc n)) h = absurd (omega (arith, h))

by_two : (P : ℕ → Type 0) → P 0 → P 1 → (a : ℕ) → a < 2 ^ 1 → P a
by_two P p q a h = elim (two a h) [
  | inl e ↦ subst (λ (n : ℕ). P n) (sym e) p
  | inr e ↦ subst (λ (n : ℕ). P n) (sym e) q
]

pub both_bits : (a b : ℕ) → a < 2 ^ 1 → b < 2 ^ 1 → bit_and a b ≡ bit ((a == 1) && (b == 1))
both_bits a b h g =
    by_two (λ n. bit_and n b ≡ bit ((n == 1) && (b == 1)))
    (by_two (λ n. bit_and 0 n ≡ bit ((0 == 1) && (n == 1))) refl refl b g)
    (by_two (λ n. bit_and 1 n ≡ bit ((1 == 1) && (n == 1))) refl refl b g) a h

pub either_bits : (a b : ℕ) → a < 2 ^ 1 → b < 2 ^ 1 → bit_or a b ≡ bit ((a == 1) || (b == 1))
either_bits a b h g =
    by_two (λ n. bit_or n b ≡ bit ((n == 1) || (b == 1)))
    (by_two (λ n. bit_or 0 n ≡ bit ((0 == 1) || (n == 1))) refl refl b g)
    (by_two (λ n. bit_or 1 n ≡ bit ((1 == 1) || (n == 1))) refl refl b g) a h

-- a comparison with 0
pub not_bit : (a z : ℕ) → z ≡ 0 → a < 2 ^ 1 → bit (a == z) ≡ bit (not (a == 1))
not_bit a z e h =
    subst (λ (y : ℕ). bit (a == y) ≡ bit (not (a == 1))) (sym e)
    (by_two (λ n. bit (n == 0) ≡ bit (not (n == 1))) refl refl a h)

-- the bit of a truth tells it
pub bit_tells : (a : ℕ) (t : Bool) → a ≡ bit t → (a == 1) ≡ t
bit_tells a true e = ap (λ n. n == 1) e
bit_tells a false e = ap (λ n. n == 1) e

-- one bit is the bit of its truth
pub bit_of : (a : ℕ) → a < 2 ^ 1 → a ≡ bit ((a == 1) || false)
bit_of a h = by_two (λ n. n ≡ bit ((n == 1) || false)) refl refl a h

pub at_most : (x y : ℤ) → not (int_lt y x) ≡ int_le x y
at_most x y = grind (arith, ints)

-- Numbers.

module _ (k : Kind) (p q : ℕ) (sized : IsKind k) where
  pub sum_alike : AreIntegers k k → unsigned_result op.Add (width_of k) p q ≡ (binary_of op.Add (with_bits k p) (with_bits k q)).bits
  sum_alike alike = sym (sum_bits (kind.Unsigned (width_of k)) (kind.Unsigned (width_of k)) p q sized refl) ∙ sum_bits k k p q sized alike

  pub difference_alike : AreIntegers k k → q < 2 ^ width_of k → unsigned_result op.Sub (width_of k) p q ≡ (binary_of op.Sub (with_bits k p) (with_bits k q)).bits
  difference_alike alike h =
      let small = word_small k q sized h in
      sym (difference_bits (kind.Unsigned (width_of k)) (kind.Unsigned (width_of k)) p q sized refl small) ∙ difference_bits k k p q sized alike small

  pub product_alike : AreIntegers k k → unsigned_result op.Mul (width_of k) p q ≡ (binary_of op.Mul (with_bits k p) (with_bits k q)).bits
  product_alike alike = sym (product_bits (kind.Unsigned (width_of k)) (kind.Unsigned (width_of k)) p q sized refl) ∙ product_bits k k p q sized alike

  pub shifted_alike : (l : Kind) → shifted op.Shl (width_of k) p q ≡ (binary_of op.Shl (with_bits k p) (with_bits l q)).bits
  shifted_alike l = sym (shl_bits (kind.Unsigned (width_of k)) p q sized) ∙ shl_bits k p q sized

-- one more
pub more_is : (w a : ℕ) → unsigned_result op.Add w a 1 ≡ (a + 1) % 2 ^ w
more_is w a =
    residue_is (2 ^ w) (pos a +ℤ pos 1) (a + 1) (pow_pos w)
    (above_sum (2 ^ w) (pos a) (pos 1) a 1 (above_value (kind.Unsigned w) a) (above_value (kind.Unsigned w) 1))

-- values of one kind are equal where their bits are
same_bits : (k : Kind) (p q : ℕ) → p < 2 ^ width_of k → q < 2 ^ width_of k → value_in k p ≡ value_in k q → p ≡ q
same_bits k p q h g e = sym (value_residue k p h) ∙ (ap (residue (2 ^ width_of k)) e ∙ value_residue k q g)

same_test : (x y : ℤ) (p q : ℕ) → (p ≡ q → x ≡ y) → (x ≡ y → p ≡ q) → (p == q) ≡ int_eq x y
same_test x y p q f g = grind (arith, ints, nat_tests)

pub equal_alike : (k : Kind) (p q : ℕ) → p < 2 ^ width_of k → q < 2 ^ width_of k → (p == q) ≡ int_eq (value_in k p) (value_in k q)
equal_alike k p q h g = same_test (value_in k p) (value_in k q) p q (λ e. ap (value_in k) e) (same_bits k p q h g)

-- Kinds.

-- the bits in a kind of the same width, in a narrower one, and in a wider one of a number that is its bits
pub same_width_bits : (from to : Kind) (p : ℕ) → width_of to ≡ width_of from → p < 2 ^ width_of from → p ≡ (word_of to (value_in from p)).bits
same_width_bits from to p same h =
    sym (ap (λ (w : ℕ). residue (2 ^ w) (value_in from p)) same ∙ value_residue from p h)

whole_of : (w v : ℕ) → v ≤ w → 2 ^ w ≡ 2 ^ (w - v) * 2 ^ v
whole_of w v h = let sum : w ≡ w - v + v = omega (arith, h) in ap (λ n. 2 ^ n) sum ∙ pow-add 2 (w - v) v

pub low_bits : (from to : Kind) (p : ℕ) → width_of to ≤ width_of from → p % 2 ^ width_of to ≡ (word_of to (value_in from p)).bits
low_bits from to p less =
    let m = 2 ^ width_of to in
    let parts : 2 ^ width_of from ≡ 2 ^ (width_of from - width_of to) * m = whole_of (width_of from) (width_of to) less in
    sym (residue_is m (value_in from p) p (pow_pos (width_of to)) (above_coarser (2 ^ width_of from) m (2 ^ (width_of from - width_of to)) (value_in from p) p parts (above_value from p)))

-- a value that is its bits, in a kind no less wide
pub wider_bits : (from to : Kind) (p : ℕ) → value_in from p ≡ pos p → width_of from ≤ width_of to → p < 2 ^ width_of from → p ≡ (word_of to (value_in from p)).bits
wider_bits from to p plain less h =
    let more : 2 ^ width_of from ≤ 2 ^ width_of to = pow_mono less in
    let small : p < 2 ^ width_of to = omega (arith, more, h) in
    sym (ap (residue (2 ^ width_of to)) plain ∙ value_residue (kind.Unsigned (width_of to)) p small)

-- of a truth or an unsigned number
pub plain_value : (from : Kind) (p : ℕ) → (from ≡ kind.Bool) ⊎ ((w : ℕ) × (from ≡ kind.Unsigned w)) → value_in from p ≡ pos p
plain_value from p (inl e) = ap (λ (k : Kind). value_in k p) e
plain_value from p (inr (w, e)) = ap (λ (k : Kind). value_in k p) e

-- Operators on two words of one kind, or on a word and an amount.

integers_alike : (k l : Kind) → AreIntegers k l → l ≡ k
integers_alike (kind.Unsigned m) (kind.Unsigned n) e = ap kind.Unsigned (sym e)
integers_alike (kind.Signed m) (kind.Signed n) e = ap kind.Signed (sym e)
integers_alike kind.Bool l e = elim e [ ]
integers_alike (kind.Unsigned m) kind.Bool e = elim e [ ]
integers_alike (kind.Unsigned m) (kind.Signed n) e = elim e [ ]
integers_alike (kind.Signed m) kind.Bool e = elim e [ ]
integers_alike (kind.Signed m) (kind.Unsigned n) e = elim e [ ]

both_alike : (k l : Kind) → AreAlike k l → l ≡ k
both_alike kind.Bool kind.Bool e = refl
both_alike (kind.Unsigned m) (kind.Unsigned n) e = ap kind.Unsigned (sym e)
both_alike (kind.Signed m) (kind.Signed n) e = ap kind.Signed (sym e)
both_alike kind.Bool (kind.Unsigned n) e = elim e [ ]
both_alike kind.Bool (kind.Signed n) e = elim e [ ]
both_alike (kind.Unsigned m) kind.Bool e = elim e [ ]
both_alike (kind.Unsigned m) (kind.Signed n) e = elim e [ ]
both_alike (kind.Signed m) kind.Bool e = elim e [ ]
both_alike (kind.Signed m) (kind.Unsigned n) e = elim e [ ]

-- what an operator gives, where the right word has the left one's kind
pub right_kind : (o : Op) (k l : Kind) (p q : ℕ) → Suits o k l → (binary_of o (with_bits k p) (with_bits k q)).bits ≡ (binary_of o (with_bits k p) (with_bits l q)).bits
right_kind op.Add k l p q s = ap (λ (r : Kind). (binary_of op.Add (with_bits k p) (with_bits r q)).bits) (sym (integers_alike k l s))
right_kind op.Sub k l p q s = ap (λ (r : Kind). (binary_of op.Sub (with_bits k p) (with_bits r q)).bits) (sym (integers_alike k l s))
right_kind op.Mul k l p q s = ap (λ (r : Kind). (binary_of op.Mul (with_bits k p) (with_bits r q)).bits) (sym (integers_alike k l s))
right_kind op.And k l p q s = refl
right_kind op.Or k l p q s = refl
right_kind op.Xor k l p q s = refl
right_kind op.Shl k l p q s = refl
right_kind op.Shr k l p q s = refl
right_kind op.Lt k l p q s = ap (λ (r : Kind). (binary_of op.Lt (with_bits k p) (with_bits r q)).bits) (sym (integers_alike k l s))
right_kind op.Gt k l p q s = ap (λ (r : Kind). (binary_of op.Gt (with_bits k p) (with_bits r q)).bits) (sym (integers_alike k l s))
right_kind op.Le k l p q s = ap (λ (r : Kind). (binary_of op.Le (with_bits k p) (with_bits r q)).bits) (sym (integers_alike k l s))
right_kind op.Ge k l p q s = ap (λ (r : Kind). (binary_of op.Ge (with_bits k p) (with_bits r q)).bits) (sym (integers_alike k l s))
right_kind op.Eq k l p q s = ap (λ (r : Kind). (binary_of op.Eq (with_bits k p) (with_bits r q)).bits) (sym (both_alike k l s))
right_kind op.Ne k l p q s = ap (λ (r : Kind). (binary_of op.Ne (with_bits k p) (with_bits r q)).bits) (sym (both_alike k l s))
right_kind op.Both k l p q s = refl
right_kind op.Either k l p q s = refl
