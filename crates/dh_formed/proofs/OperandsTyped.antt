-- Operands without a breach suit their operator, by cases on the sort of the operator and on both kinds.
use Rattle.std.proofs.Common.{◌≡◌, ℕ, refl, arith}
use Rattle.std.specs.Prelude.{[], max}
use Rattle.dh_base.specs.declared.places.Place.{Place}
use Rattle.dh_value.specs.declared.kinds.Kind.{Kind}
use Rattle.dh_value.specs.declared.kinds.Kind.TheVariants as kind
use Rattle.dh_value.specs.declared.operators.Op.{Op}
use Rattle.dh_value.specs.declared.operators.Op.TheVariants as op
use Rattle.dh_value.specs.Words.{IsKind, IsWidth}
use Rattle.dh_tree.specs.Kinds.{applied_kind, number_and_amount, operands_breaches, two_alike, two_numbers, two_truths}
use Rattle.dh_formed.specs.Formed.{OperandsSuit}
use Rattle.dh_formed.specs.TypedOperands.{TypedOperandsSuit}

wide : (m n : ℕ) → IsWidth m → IsWidth n → IsWidth (max m n)
wide m n h k = (let a = h.0 in omega (arith, a), let b = h.1 in let d = k.1 in omega (arith, b, d))

-- Which kinds have no breach.
module _ (P : Kind → Kind → Type 0) (left right : Place) where
  numbers_alike : ((m n : ℕ) → P (kind.Unsigned m) (kind.Unsigned n)) → ((m n : ℕ) → P (kind.Signed m) (kind.Signed n)) → (j k : Kind) → operands_breaches two_numbers left right j k ≡ [] → P j k
  numbers_alike u s kind.Bool k e = absurd (cc)
  numbers_alike u s (kind.Unsigned m) kind.Bool e = absurd (cc)
  numbers_alike u s (kind.Unsigned m) (kind.Unsigned n) e = u m n
  numbers_alike u s (kind.Unsigned m) (kind.Signed n) e = absurd (cc)
  numbers_alike u s (kind.Signed m) kind.Bool e = absurd (cc)
  numbers_alike u s (kind.Signed m) (kind.Unsigned n) e = absurd (cc)
  numbers_alike u s (kind.Signed m) (kind.Signed n) e = s m n

  all_alike : P kind.Bool kind.Bool → ((m n : ℕ) → P (kind.Unsigned m) (kind.Unsigned n)) → ((m n : ℕ) → P (kind.Signed m) (kind.Signed n)) → (j k : Kind) → operands_breaches two_alike left right j k ≡ [] → P j k
  all_alike b u s kind.Bool kind.Bool e = b
  all_alike b u s kind.Bool (kind.Unsigned n) e = absurd (cc)
  all_alike b u s kind.Bool (kind.Signed n) e = absurd (cc)
  all_alike b u s (kind.Unsigned m) kind.Bool e = absurd (cc)
  all_alike b u s (kind.Unsigned m) (kind.Unsigned n) e = u m n
  all_alike b u s (kind.Unsigned m) (kind.Signed n) e = absurd (cc)
  all_alike b u s (kind.Signed m) kind.Bool e = absurd (cc)
  all_alike b u s (kind.Signed m) (kind.Unsigned n) e = absurd (cc)
  all_alike b u s (kind.Signed m) (kind.Signed n) e = s m n

  amounts : ((m n : ℕ) → P (kind.Unsigned m) (kind.Unsigned n)) → ((m n : ℕ) → P (kind.Signed m) (kind.Unsigned n)) → (j k : Kind) → operands_breaches number_and_amount left right j k ≡ [] → P j k
  amounts u s kind.Bool k e = absurd (cc)
  amounts u s (kind.Unsigned m) kind.Bool e = absurd (cc)
  amounts u s (kind.Unsigned m) (kind.Unsigned n) e = u m n
  amounts u s (kind.Unsigned m) (kind.Signed n) e = absurd (cc)
  amounts u s (kind.Signed m) kind.Bool e = absurd (cc)
  amounts u s (kind.Signed m) (kind.Unsigned n) e = s m n
  amounts u s (kind.Signed m) (kind.Signed n) e = absurd (cc)

  truths : P kind.Bool kind.Bool → (j k : Kind) → operands_breaches two_truths left right j k ≡ [] → P j k
  truths b kind.Bool kind.Bool e = b
  truths b kind.Bool (kind.Unsigned n) e = absurd (cc)
  truths b kind.Bool (kind.Signed n) e = absurd (cc)
  truths b (kind.Unsigned m) k e = absurd (cc)
  truths b (kind.Signed m) k e = absurd (cc)

abbrev Suit : Op → Kind → Kind → Type 0
Suit o j k = IsKind j → IsKind k → OperandsSuit o j k (applied_kind o j k)

pub typed_operands_suit : TypedOperandsSuit
typed_operands_suit op.Add left right j k a b e = numbers_alike (Suit op.Add) left right (λ m n h i. record { extension = wide m n h i; suits = refl; result_is = refl }) (λ m n h i. record { extension = wide m n h i; suits = refl; result_is = refl }) j k e a b
typed_operands_suit op.Sub left right j k a b e = numbers_alike (Suit op.Sub) left right (λ m n h i. record { extension = wide m n h i; suits = refl; result_is = refl }) (λ m n h i. record { extension = wide m n h i; suits = refl; result_is = refl }) j k e a b
typed_operands_suit op.Mul left right j k a b e = numbers_alike (Suit op.Mul) left right (λ m n h i. record { extension = wide m n h i; suits = refl; result_is = refl }) (λ m n h i. record { extension = wide m n h i; suits = refl; result_is = refl }) j k e a b
typed_operands_suit op.And left right j k a b e = numbers_alike (Suit op.And) left right (λ m n h i. record { extension = wide m n h i; suits = refl; result_is = refl }) (λ m n h i. record { extension = wide m n h i; suits = refl; result_is = refl }) j k e a b
typed_operands_suit op.Or left right j k a b e = numbers_alike (Suit op.Or) left right (λ m n h i. record { extension = wide m n h i; suits = refl; result_is = refl }) (λ m n h i. record { extension = wide m n h i; suits = refl; result_is = refl }) j k e a b
typed_operands_suit op.Xor left right j k a b e = numbers_alike (Suit op.Xor) left right (λ m n h i. record { extension = wide m n h i; suits = refl; result_is = refl }) (λ m n h i. record { extension = wide m n h i; suits = refl; result_is = refl }) j k e a b
typed_operands_suit op.Lt left right j k a b e = numbers_alike (Suit op.Lt) left right (λ m n h i. record { extension = wide m n h i; suits = refl; result_is = refl }) (λ m n h i. record { extension = wide m n h i; suits = refl; result_is = refl }) j k e a b
typed_operands_suit op.Gt left right j k a b e = numbers_alike (Suit op.Gt) left right (λ m n h i. record { extension = wide m n h i; suits = refl; result_is = refl }) (λ m n h i. record { extension = wide m n h i; suits = refl; result_is = refl }) j k e a b
typed_operands_suit op.Le left right j k a b e = numbers_alike (Suit op.Le) left right (λ m n h i. record { extension = wide m n h i; suits = refl; result_is = refl }) (λ m n h i. record { extension = wide m n h i; suits = refl; result_is = refl }) j k e a b
typed_operands_suit op.Ge left right j k a b e = numbers_alike (Suit op.Ge) left right (λ m n h i. record { extension = wide m n h i; suits = refl; result_is = refl }) (λ m n h i. record { extension = wide m n h i; suits = refl; result_is = refl }) j k e a b
typed_operands_suit op.Eq left right j k a b e =
    all_alike (Suit op.Eq) left right (λ h i. record { extension = tt; suits = tt; result_is = refl }) (λ m n h i. record { extension = wide m n h i; suits = refl; result_is = refl }) (λ m n h i. record { extension = wide m n h i; suits = refl; result_is = refl }) j k e a b
typed_operands_suit op.Ne left right j k a b e =
    all_alike (Suit op.Ne) left right (λ h i. record { extension = tt; suits = tt; result_is = refl }) (λ m n h i. record { extension = wide m n h i; suits = refl; result_is = refl }) (λ m n h i. record { extension = wide m n h i; suits = refl; result_is = refl }) j k e a b
typed_operands_suit op.Shl left right j k a b e = amounts (Suit op.Shl) left right (λ m n h i. record { extension = tt; suits = tt; result_is = refl }) (λ m n h i. record { extension = tt; suits = tt; result_is = refl }) j k e a b
typed_operands_suit op.Shr left right j k a b e = amounts (Suit op.Shr) left right (λ m n h i. record { extension = tt; suits = tt; result_is = refl }) (λ m n h i. record { extension = tt; suits = tt; result_is = refl }) j k e a b
typed_operands_suit op.Both left right j k a b e = truths (Suit op.Both) left right (λ h i. record { extension = tt; suits = tt; result_is = refl }) j k e a b
typed_operands_suit op.Either left right j k a b e = truths (Suit op.Either) left right (λ h i. record { extension = tt; suits = tt; result_is = refl }) j k e a b
