-- The kind of what an operator gives is that of the rules on kinds, where its operands break none.
use Rattle.std.proofs.Common.{◌≡◌, ℕ, max, List, [], ◌∷◌, Option, Some, refl, ap, sym, ◌∙◌, subst, arith}
use Rattle.dh_base.specs.declared.places.Place.{Place}
use Rattle.dh_value.specs.declared.kinds.Kind.{Kind}
use Rattle.dh_value.specs.declared.kinds.Kind.TheVariants as kind
use Rattle.dh_value.specs.declared.operators.Op.{Op}
use Rattle.dh_value.specs.declared.operators.Op.TheVariants as op
use Rattle.dh_value.specs.Words.{IsInteger, IsKind, IsWidth}
use Rattle.dh_tree.specs.Kinds.{two_numbers, takes, operands_breaches, applied_kind, applied_breaches, applied_found, unless, found}
use Rattle.dh_tree.specs.WiderKinds.{wider}
use Rattle.dh_tree.specs.PlainTrees.{Term, term}
use Rattle.dh_tree.specs.declared.breaches.Breach.{Breach}
use Rattle.dh_tree.proofs.EmptyLists.{not_none}
use Rattle.dh_meaning.specs.Bindings.{kind_or_first}
use Rattle.dh_expressions.specs.Shown.{kind_written}
use Rattle.dh_blocks.specs.SoundTerms.{GivesKind}

max_sized : (m n : ℕ) → IsWidth m → IsWidth n → IsWidth (max m n)
max_sized m n g h = let a = g.0 in let b = g.1 in let c = h.0 in let d = h.1 in (grind arith, grind arith)

-- two numbers of one sign are extended to an integer kind
pub integer_wider : (at to : Place) (j k : Kind) → IsKind j → IsKind k → operands_breaches two_numbers at to j k ≡ [] → IsInteger (wider j k)
integer_wider at to kind.Bool k s t e = not_none _ _ e
integer_wider at to (kind.Unsigned m) kind.Bool s t e = not_none _ _ e
integer_wider at to (kind.Unsigned m) (kind.Signed n) s t e = not_none _ _ e
integer_wider at to (kind.Unsigned m) (kind.Unsigned n) s t e = max_sized m n s t
integer_wider at to (kind.Signed m) kind.Bool s t e = not_none _ _ e
integer_wider at to (kind.Signed m) (kind.Unsigned n) s t e = not_none _ _ e
integer_wider at to (kind.Signed m) (kind.Signed n) s t e = max_sized m n s t

pub gives : (o : Op) (at to : Place) (j k : Kind) → IsKind j → IsKind k → operands_breaches (takes o) at to j k ≡ [] → GivesKind o j k (applied_kind o j k)
gives op.Add at to j k s t e = (integer_wider at to j k s t e, refl)
gives op.Sub at to j k s t e = (integer_wider at to j k s t e, refl)
gives op.Mul at to j k s t e = (integer_wider at to j k s t e, refl)
gives op.And at to j k s t e = (integer_wider at to j k s t e, refl)
gives op.Or at to j k s t e = (integer_wider at to j k s t e, refl)
gives op.Xor at to j k s t e = (integer_wider at to j k s t e, refl)
gives op.Shl at to j k s t e = (s, refl)
gives op.Shr at to j k s t e = (s, refl)
gives op.Lt at to j k s t e = refl
gives op.Gt at to j k s t e = refl
gives op.Le at to j k s t e = refl
gives op.Ge at to j k s t e = refl
gives op.Eq at to j k s t e = refl
gives op.Ne at to j k s t e = refl
gives op.Both at to j k s t e = refl
gives op.Either at to j k s t e = refl

-- a kind that was found is written
pub written_is : (t : Term) (k : Kind) → found t ≡ Some k → kind_written t ≡ k
written_is (term place m form) k e = ap kind_or_first e

no_breaches : (bs : List Breach) (k : Kind) → bs ≡ [] → unless bs k ≡ Some k
no_breaches [] k e = refl
no_breaches (b ∷ bs) k e = not_none _ _ e

-- an operation on two operands of kinds that were found
pub applied_known : (at to : Place) (o : Op) (l r : Option Kind) (j k : Kind) → l ≡ Some j → r ≡ Some k → applied_breaches o at to l r ≡ [] → (operands_breaches (takes o) at to j k ≡ []) × (applied_found o at to l r ≡ Some (applied_kind o j k))
applied_known at to o l r j k e f h =
    let same : applied_breaches o at to l r ≡ operands_breaches (takes o) at to j k = ap (λ x. applied_breaches o at to x r) e ∙ ap (λ y. applied_breaches o at to (Some j) y) f in
    let none = sym same ∙ h in
    (none, ap (λ x. applied_found o at to x r) e ∙ (ap (λ y. applied_found o at to (Some j) y) f ∙ no_breaches _ _ none))

-- by the kinds that are written
pub gives_written : (o : Op) (left right : Term) (j k whole : Kind) → found left ≡ Some j → found right ≡ Some k → whole ≡ applied_kind o j k → GivesKind o j k (applied_kind o j k)
    → GivesKind o (kind_written left) (kind_written right) whole
gives_written o left right j k whole e f g h =
    subst (λ (x : Kind). GivesKind o x (kind_written right) whole) (sym (written_is left j e))
    (subst (λ (x : Kind). GivesKind o j x whole) (sym (written_is right k f)) (subst (λ (x : Kind). GivesKind o j k x) (sym g) h))
