-- Both operands of an operator are known, and of both holds what holds of each for a sized kind of its place.
use Rattle.std.proofs.Common.{◌≡◌, ℕ, Bool, true, false, if◌then◌else◌, List, Option, Some, None, sym, subst, arith}
use Rattle.dh_value.specs.declared.kinds.Kind.{Kind}
use Rattle.dh_value.specs.declared.kinds.Kind.TheVariants as kind
use Rattle.dh_value.specs.declared.operators.Op.{Op}
use Rattle.dh_tree.specs.Kinds.{Facts, is_shift, keeps_bare, found, left_want, right_want, typed_term}
use Rattle.dh_tree.specs.PlainTrees.{Term}
use Rattle.dh_tree.specs.Widths.{IsSized}
use Rattle.dh_meaning.specs.CoreOf.{Known}
use Rattle.dh_runnable.proofs.TermsSuited.{IsKnown, known_sized}
use Rattle.dh_runnable.proofs.TypedParts.{for_numbers_sized}
use Rattle.dh_code.specs.Slots.{Placing}

either_sized : (b : Bool) (j k : Option Kind) → IsSized j → IsSized k → IsSized (if b then j else k)
either_sized true j k h i = h
either_sized false j k h i = i

amount_sized : IsSized (Some (kind.Unsigned 32))
amount_sized = (omega arith, omega arith)

module _ (known : Known) (p : Placing) (loops : List ℕ) (Holds : Term → Type 0) where
  -- an expression of which a kind is known, and this holds
  abbrev pub IsRight : Term → Type 0
  IsRight t = IsKnown known p loops t × Holds t

  right_sized : (t : Term) → IsRight t → IsSized (found t)
  right_sized t k = known_sized known p loops t k.0

  pub operands_right : (facts : Facts) (o : Op) (want : Option Kind) (left right : Term) (bare_left bare_right : Bool)
      → IsSized want
      → ((w : Option Kind) → IsSized w → typed_term facts w left ≡ left → IsRight left)
      → ((w : Option Kind) → IsSized w → typed_term facts w right ≡ right → IsRight right)
      → typed_term facts (left_want o want bare_left bare_right (found (typed_term facts None right))) left ≡ left
      → typed_term facts (right_want o want bare_left bare_right (found (typed_term facts None left))) right ≡ right
      → IsRight left × IsRight right
  operands_right facts o want left right false false s l r e f = (l None tt e, r None tt f)
  operands_right facts o want left right false true s l r e f =
      let first = l None tt e in
      let sized : IsSized (found (typed_term facts None left)) = subst (λ (t : Term). IsSized (found t)) (sym e) (right_sized left first) in
      (first, r _ (either_sized (is_shift o) _ _ amount_sized (for_numbers_sized _ sized)) f)
  operands_right facts o want left right true false s l r e f =
      let second = r None tt f in
      let sized : IsSized (found (typed_term facts None right)) = subst (λ (t : Term). IsSized (found t)) (sym f) (right_sized right second) in
      (l _ (either_sized (is_shift o) _ _ tt (for_numbers_sized _ sized)) e, second)
  operands_right facts o want left right true true s l r e f =
      (l _ (either_sized (keeps_bare o) _ _ s tt) e, r _ (either_sized (is_shift o) _ _ amount_sized (either_sized (keeps_bare o) _ _ s tt)) f)
