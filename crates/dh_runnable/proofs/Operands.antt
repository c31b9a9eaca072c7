-- Kinds of operands: where an operation breaks no rule on kinds, its operands, extended to the wider of their kinds,
-- suit it, and its value has the kind that was found for it. By cases on the operator and on the two kinds, of
-- which the rule leaves those that suit. Extending an operand names no variable, so that an operation names
-- those of its operands.
use Rattle.std.proofs.Common.{◌≡◌, ℕ, max, List, [], ◌∷◌, refl, sym, ◌∙◌, subst, arith}
use Rattle.dh_base.specs.declared.places.Place.{Place}
use Rattle.dh_value.specs.declared.kinds.Kind.{Kind}
use Rattle.dh_value.specs.declared.kinds.Kind.TheVariants as kind
use Rattle.dh_value.specs.declared.operators.Op.{Op}
use Rattle.dh_value.specs.declared.operators.Op.TheVariants as op
use Rattle.dh_value.specs.Operations.{AreIntegers, AreTruths, AreAlike, IsShift}
use Rattle.dh_value.specs.Words.{IsKind, IsWidth}
use Rattle.dh_tree.specs.declared.tables.MemEntry.{MemEntry}
use Rattle.dh_tree.specs.Kinds.{two_numbers, number_and_amount, two_alike, two_truths, takes, operands_breaches, applied_kind}
use Rattle.dh_tree.specs.WiderKinds.{wider}
use Rattle.dh_meaning.specs.Core.{CoreTerm}
use Rattle.dh_meaning.specs.CoreOf.{extended, extended_both, operation_of}
use Rattle.dh_code.specs.Slots.{Placing}
use Rattle.dh_code.specs.Suited.{term_kind, IsSuited, AreInside}

-- a term that means an operand of this kind
pub record IsOperand (table : List MemEntry) (k : Kind) (t : CoreTerm) : Type 0 where
  pub sized : IsKind k
  pub kind : term_kind table t ≡ k
  pub suits : IsSuited table t

max_sized : (m n : ℕ) → IsWidth m → IsWidth n → IsWidth (max m n)
max_sized m n g h = let a = g.0 in let b = g.1 in let c = h.0 in let d = h.1 in (grind arith, grind arith)

-- two numbers of one sign, extended: they are of one kind, the wider
pub record AreExtended (table : List MemEntry) (j k : Kind) (left right : CoreTerm) : Type 0 where
  pub sized : IsKind (wider j k)
  pub first : term_kind table (extended (wider j k) left) ≡ wider j k
  pub second : term_kind table (extended (wider j k) right) ≡ wider j k
  pub one : AreIntegers (term_kind table (extended (wider j k) left)) (term_kind table (extended (wider j k) right))
  pub left_suits : IsSuited table (extended (wider j k) left)
  pub right_suits : IsSuited table (extended (wider j k) right)

not_nil : {A B : Type 0} (x : A) (xs : List A) → x ∷ xs ≡ [] → B
not_nil x xs e = cc

numbers_extended : (table : List MemEntry) (at to : Place) (j k : Kind) (left right : CoreTerm) → operands_breaches two_numbers at to j k ≡ [] → IsOperand table j left → IsOperand table k right → AreExtended table j k left right
numbers_extended table at to kind.Bool k left right e l r = not_nil _ _ e
numbers_extended table at to (kind.Unsigned m) kind.Bool left right e l r = not_nil _ _ e
numbers_extended table at to (kind.Unsigned m) (kind.Signed n) left right e l r = not_nil _ _ e
numbers_extended table at to (kind.Unsigned m) (kind.Unsigned n) left right e l r = record {
  sized = max_sized m n l.sized r.sized;
  first = refl;
  second = refl;
  one = refl;
  left_suits = (max_sized m n l.sized r.sized, l.suits);
  right_suits = (max_sized m n l.sized r.sized, r.suits);
}
numbers_extended table at to (kind.Signed m) kind.Bool left right e l r = not_nil _ _ e
numbers_extended table at to (kind.Signed m) (kind.Unsigned n) left right e l r = not_nil _ _ e
numbers_extended table at to (kind.Signed m) (kind.Signed n) left right e l r = record {
  sized = max_sized m n l.sized r.sized;
  first = refl;
  second = refl;
  one = refl;
  left_suits = (max_sized m n l.sized r.sized, l.suits);
  right_suits = (max_sized m n l.sized r.sized, r.suits);
}

-- two of one sign, or two truths, extended
pub record AreAlikeExtended (table : List MemEntry) (j k : Kind) (left right : CoreTerm) : Type 0 where
  pub one : AreAlike (term_kind table (extended (wider j k) left)) (term_kind table (extended (wider j k) right))
  pub left_suits : IsSuited table (extended (wider j k) left)
  pub right_suits : IsSuited table (extended (wider j k) right)

truths_alike : (a b : Kind) → a ≡ kind.Bool → b ≡ kind.Bool → AreAlike a b
truths_alike a b e f = subst (λ (k : Kind). AreAlike k b) (sym e) (subst (λ (k : Kind). AreAlike kind.Bool k) (sym f) tt)

alike_extended : (table : List MemEntry) (at to : Place) (j k : Kind) (left right : CoreTerm) → operands_breaches two_alike at to j k ≡ [] → IsOperand table j left → IsOperand table k right → AreAlikeExtended table j k left right
alike_extended table at to kind.Bool kind.Bool left right e l r = record { one = truths_alike _ _ l.kind r.kind; left_suits = l.suits; right_suits = r.suits }
alike_extended table at to kind.Bool (kind.Unsigned n) left right e l r = not_nil _ _ e
alike_extended table at to kind.Bool (kind.Signed n) left right e l r = not_nil _ _ e
alike_extended table at to (kind.Unsigned m) kind.Bool left right e l r = not_nil _ _ e
alike_extended table at to (kind.Unsigned m) (kind.Signed n) left right e l r = not_nil _ _ e
alike_extended table at to (kind.Unsigned m) (kind.Unsigned n) left right e l r = record {
  one = refl;
  left_suits = (max_sized m n l.sized r.sized, l.suits);
  right_suits = (max_sized m n l.sized r.sized, r.suits);
}
alike_extended table at to (kind.Signed m) kind.Bool left right e l r = not_nil _ _ e
alike_extended table at to (kind.Signed m) (kind.Unsigned n) left right e l r = not_nil _ _ e
alike_extended table at to (kind.Signed m) (kind.Signed n) left right e l r = record {
  one = refl;
  left_suits = (max_sized m n l.sized r.sized, l.suits);
  right_suits = (max_sized m n l.sized r.sized, r.suits);
}

-- a number and an amount
amount_kinds : (at to : Place) (j k : Kind) → operands_breaches number_and_amount at to j k ≡ [] → IsShift j k
amount_kinds at to kind.Bool k e = not_nil _ _ e
amount_kinds at to (kind.Unsigned m) kind.Bool e = not_nil _ _ e
amount_kinds at to (kind.Unsigned m) (kind.Signed n) e = not_nil _ _ e
amount_kinds at to (kind.Unsigned m) (kind.Unsigned n) e = tt
amount_kinds at to (kind.Signed m) kind.Bool e = not_nil _ _ e
amount_kinds at to (kind.Signed m) (kind.Signed n) e = not_nil _ _ e
amount_kinds at to (kind.Signed m) (kind.Unsigned n) e = tt

truth_kinds : (at to : Place) (j k : Kind) → operands_breaches two_truths at to j k ≡ [] → AreTruths j k
truth_kinds at to kind.Bool kind.Bool e = tt
truth_kinds at to kind.Bool (kind.Unsigned n) e = not_nil _ _ e
truth_kinds at to kind.Bool (kind.Signed n) e = not_nil _ _ e
truth_kinds at to (kind.Unsigned m) k e = not_nil _ _ e
truth_kinds at to (kind.Signed m) k e = not_nil _ _ e

-- a relation of the kinds of two operands
of_kinds : (P : Kind → Kind → Type 0) (a b j k : Kind) → a ≡ j → b ≡ k → P j k → P a b
of_kinds P a b j k e f h = subst (λ (x : Kind). P x b) (sym e) (subst (λ (y : Kind). P j y) (sym f) h)

pub bool_sized : IsKind kind.Bool
bool_sized = (omega arith, omega arith)

-- an operation on two numbers that gives a number
number_of : (o : Op) (table : List MemEntry) (j k : Kind) (left right : CoreTerm) → AreExtended table j k left right → IsSuited table (extended_both o j k left right) → term_kind table (extended_both o j k left right) ≡ term_kind table (extended (wider j k) left) → IsOperand table (wider j k) (extended_both o j k left right)
number_of o table j k left right x s e = record { sized = x.sized; kind = e ∙ x.first; suits = s }

truth_of : (t : CoreTerm) (table : List MemEntry) → IsSuited table t → term_kind table t ≡ kind.Bool → IsOperand table kind.Bool t
truth_of t table s e = record { sized = bool_sized; kind = e; suits = s }

-- an operation without a breach means a term of its kind, which suits it
pub applied_suits : (table : List MemEntry) (at to : Place) (o : Op) (j k : Kind) (left right : CoreTerm) → operands_breaches (takes o) at to j k ≡ [] → IsOperand table j left → IsOperand table k right → IsOperand table (applied_kind o j k) (operation_of o j k left right)
applied_suits table at to op.Add j k left right e l r =
    let x = numbers_extended table at to j k left right e l r in number_of op.Add table j k left right x (x.one, (x.left_suits, x.right_suits)) refl
applied_suits table at to op.Sub j k left right e l r =
    let x = numbers_extended table at to j k left right e l r in number_of op.Sub table j k left right x (x.one, (x.left_suits, x.right_suits)) refl
applied_suits table at to op.Mul j k left right e l r =
    let x = numbers_extended table at to j k left right e l r in number_of op.Mul table j k left right x (x.one, (x.left_suits, x.right_suits)) refl
applied_suits table at to op.And j k left right e l r =
    let x = numbers_extended table at to j k left right e l r in number_of op.And table j k left right x (x.one, (x.left_suits, x.right_suits)) refl
applied_suits table at to op.Or j k left right e l r =
    let x = numbers_extended table at to j k left right e l r in number_of op.Or table j k left right x (x.one, (x.left_suits, x.right_suits)) refl
applied_suits table at to op.Xor j k left right e l r =
    let x = numbers_extended table at to j k left right e l r in number_of op.Xor table j k left right x (x.one, (x.left_suits, x.right_suits)) refl
applied_suits table at to op.Shl j k left right e l r =
    record { sized = l.sized; kind = l.kind; suits = (of_kinds IsShift _ _ j k l.kind r.kind (amount_kinds at to j k e), (l.suits, r.suits)) }
applied_suits table at to op.Shr j k left right e l r =
    record { sized = l.sized; kind = l.kind; suits = (of_kinds IsShift _ _ j k l.kind r.kind (amount_kinds at to j k e), (l.suits, r.suits)) }
applied_suits table at to op.Lt j k left right e l r =
    let x = numbers_extended table at to j k left right e l r in truth_of _ table (x.one, (x.left_suits, x.right_suits)) refl
applied_suits table at to op.Gt j k left right e l r =
    let x = numbers_extended table at to j k left right e l r in truth_of _ table (x.one, (x.left_suits, x.right_suits)) refl
applied_suits table at to op.Le j k left right e l r =
    let x = numbers_extended table at to j k left right e l r in truth_of _ table (x.one, (x.left_suits, x.right_suits)) refl
applied_suits table at to op.Ge j k left right e l r =
    let x = numbers_extended table at to j k left right e l r in truth_of _ table (x.one, (x.left_suits, x.right_suits)) refl
applied_suits table at to op.Eq j k left right e l r =
    let x = alike_extended table at to j k left right e l r in truth_of _ table (x.one, (x.left_suits, x.right_suits)) refl
applied_suits table at to op.Ne j k left right e l r =
    let x = alike_extended table at to j k left right e l r in truth_of _ table (x.one, (x.left_suits, x.right_suits)) refl
applied_suits table at to op.Both j k left right e l r =
    truth_of _ table (of_kinds AreTruths _ _ j k l.kind r.kind (truth_kinds at to j k e), (l.suits, r.suits)) refl
applied_suits table at to op.Either j k left right e l r =
    truth_of _ table (of_kinds AreTruths _ _ j k l.kind r.kind (truth_kinds at to j k e), (l.suits, r.suits)) refl

-- Variables.

extended_inside : (p : Placing) (loops : List ℕ) (k : Kind) (t : CoreTerm) → AreInside p loops t → AreInside p loops (extended k t)
extended_inside p loops kind.Bool t h = h
extended_inside p loops (kind.Unsigned w) t h = h
extended_inside p loops (kind.Signed w) t h = h

-- an operation names the variables of its operands
pub operation_inside : (p : Placing) (loops : List ℕ) (o : Op) (j k : Kind) (left right : CoreTerm) → AreInside p loops left → AreInside p loops right → AreInside p loops (operation_of o j k left right)
operation_inside p loops op.Shl j k left right l r = (l, r)
operation_inside p loops op.Shr j k left right l r = (l, r)
operation_inside p loops op.Both j k left right l r = (l, r)
operation_inside p loops op.Either j k left right l r = (l, r)
operation_inside p loops op.Add j k left right l r = (extended_inside p loops (wider j k) left l, extended_inside p loops (wider j k) right r)
operation_inside p loops op.Sub j k left right l r = (extended_inside p loops (wider j k) left l, extended_inside p loops (wider j k) right r)
operation_inside p loops op.Mul j k left right l r = (extended_inside p loops (wider j k) left l, extended_inside p loops (wider j k) right r)
operation_inside p loops op.And j k left right l r = (extended_inside p loops (wider j k) left l, extended_inside p loops (wider j k) right r)
operation_inside p loops op.Or j k left right l r = (extended_inside p loops (wider j k) left l, extended_inside p loops (wider j k) right r)
operation_inside p loops op.Xor j k left right l r = (extended_inside p loops (wider j k) left l, extended_inside p loops (wider j k) right r)
operation_inside p loops op.Lt j k left right l r = (extended_inside p loops (wider j k) left l, extended_inside p loops (wider j k) right r)
operation_inside p loops op.Gt j k left right l r = (extended_inside p loops (wider j k) left l, extended_inside p loops (wider j k) right r)
operation_inside p loops op.Le j k left right l r = (extended_inside p loops (wider j k) left l, extended_inside p loops (wider j k) right r)
operation_inside p loops op.Ge j k left right l r = (extended_inside p loops (wider j k) left l, extended_inside p loops (wider j k) right r)
operation_inside p loops op.Eq j k left right l r = (extended_inside p loops (wider j k) left l, extended_inside p loops (wider j k) right r)
operation_inside p loops op.Ne j k left right l r = (extended_inside p loops (wider j k) left l, extended_inside p loops (wider j k) right r)
