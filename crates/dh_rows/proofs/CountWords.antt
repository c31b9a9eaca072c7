-- Words of an unsigned kind as the numbers that they are: each operator on numbers gives the number, where it is one
-- of the kind.
use Rattle.std.proofs.Common.{◌≡◌, ℕ, ◌+◌, ◌-◌, ◌*◌, ◌/◌, ◌%◌, ◌^◌, ◌<◌, ◌≤◌, nat_le, nat_lt, Bool, true, false, pos, ◌-ℤ◌, refl, ap, ◌∙◌, arith}
use Rattle.std.specs.Prelude.{if◌then◌else◌}
use Rattle.std.proofs.lemmas.Int.{ints}
use Rattle.std.proofs.lemmas.Nat.{shr_le}
use Rattle.dh_value.specs.declared.kinds.Kind.TheVariants as kind
use Rattle.dh_value.specs.declared.operators.Op.TheVariants as op
use Rattle.dh_value.specs.declared.words.Word.{Word}
use Rattle.dh_value.specs.Words.{value_of, with_bits, word_of}
use Rattle.dh_value.specs.Operations.{binary_of, is_true, truth}
use Rattle.dh_value.proofs.Residues.{residue_is, residue_small}
use Rattle.dh_value.proofs.Values.{above_value}

pub true_told : (t : Bool) → is_true (truth t) ≡ t
true_told true = refl
true_told false = refl

pub truth_number : (t : Bool) → value_of (truth t) ≡ pos (if t then 1 else 0)
truth_number true = refl
truth_number false = refl

module _ (width : ℕ) where
  abbrev count : ℕ → Word
  count n = with_bits (kind.Unsigned width) n

  pub number_word : (n : ℕ) → n < 2 ^ width → word_of (kind.Unsigned width) (pos n) ≡ count n
  number_word n fits = ap (λ b. with_bits (kind.Unsigned width) b) (residue_small (2 ^ width) (pos n) n (above_value (kind.Unsigned width) n) fits)

  pub number_cut : (n : ℕ) → 0 < 2 ^ width → word_of (kind.Unsigned width) (pos n) ≡ count (n % 2 ^ width)
  number_cut n some = ap (λ b. with_bits (kind.Unsigned width) b) (residue_is (2 ^ width) (pos n) n some (above_value (kind.Unsigned width) n))

  pub add_count : (a b : ℕ) → a + b < 2 ^ width → binary_of op.Add (count a) (count b) ≡ count (a + b)
  add_count a b fits = number_word (a + b) fits

  less_whole : (a b : ℕ) → b ≤ a → pos a -ℤ pos b ≡ pos (a - b)
  less_whole a b l = omega (arith, ints, l)

  pub less_count : (a b : ℕ) → b ≤ a → a < 2 ^ width → binary_of op.Sub (count a) (count b) ≡ count (a - b)
  less_count a b l fits = ap (λ z. word_of (kind.Unsigned width) z) (less_whole a b l) ∙ number_word (a - b) (omega (arith, fits))

  pub shift_count : (a by : ℕ) → a * 2 ^ by < 2 ^ width → binary_of op.Shl (count a) (with_bits (kind.Unsigned 6) by) ≡ count (a * 2 ^ by)
  shift_count a by fits = number_word (a * 2 ^ by) fits

  pub cut_count : (a by : ℕ) → a < 2 ^ width → binary_of op.Shr (count a) (with_bits (kind.Unsigned 6) by) ≡ count (a / 2 ^ by)
  cut_count a by fits = let l = shr_le a by in number_word (a / 2 ^ by) (omega (arith, l, fits))

  pub at_least_count : (a b : ℕ) → binary_of op.Ge (count a) (count b) ≡ truth (nat_le b a)
  at_least_count a b = refl

  pub below_count : (a b : ℕ) → binary_of op.Lt (count a) (count b) ≡ truth (nat_lt a b)
  below_count a b = refl
