-- A read that is put down, and the way of an access by indices, from what was put down for them.
use Rattle.std.proofs.Common.{◌≡◌, ℕ, List, ap, ◌∙◌, subst}
use Rattle.std.specs.Prelude.{Option, None, [], ◌++◌, map}
use Rattle.dh_tree.specs.declared.tables.Dim.{Dim}
use Rattle.dh_tree.specs.Elements.{dims_at}
use Rattle.dh_plan.specs.declared.operations.Operation.{Operation}
use Rattle.dh_plan.specs.declared.operations.OperationForm.TheVariants.{Read}
use Rattle.dh_plan.specs.declared.operations.Reach.{Reach}
use Rattle.dh_plan.specs.declared.operations.ReachStep.{ReachStep}
use Rattle.dh_rows.specs.MadeOperations.{IsMade, pushed}
use Rattle.dh_address.specs.declared.operands.BlockValue.{BlockValue}
use Rattle.dh_address.specs.declared.operands.Ranged.{Ranged}
use Rattle.dh_address.specs.declared.passing.PassedIndices.{PassedIndices}
use Rattle.dh_address.specs.Pieces.{RenumberedBlock, IsGuarded, IsAimedReach, IsReadMade}
use Rattle.dh_address.specs.SeenAround.{IsReachPassed}
use Rattle.dh_address.specs.WaysMade.{IndexWay, way, IsIndexWay, operand_of, ranges_by, steps_passed, way_begun, passed_to}

pub read_made : (a : RenumberedBlock) (guard : Option ℕ) (r : Reach) (old passed guarded last new : List Operation) (p : PassedIndices) (rs : List Ranged) (is : List BlockValue) (on : Option ℕ) (t : Reach) (number : ℕ)
    → rs ≡ p.ranges → is ≡ p.indices → IsReachPassed a r old passed p → IsGuarded guard rs passed guarded on → IsAimedReach a r r.row is guarded last t → IsMade new number (pushed last on (Read t))
    → IsReadMade a guard r old new number
read_made a guard r old passed guarded last new p rs is on t number rs_is is_is h g aim read = record {
  last = last;
  on = on;
  reach = t;
  access = record {
    passed = passed;
    ranges = p.ranges;
    indices = p.indices;
    passes = h;
    guarded = guarded;
    guards = subst (λ (l : List Ranged). IsGuarded guard l passed guarded on) rs_is g;
    aims = subst (λ (l : List BlockValue). IsAimedReach a r r.row l guarded last t) is_is aim;
  };
  read = read;
}

-- behind the views the indices are noted with the dimensions of the memory
pub indices_passed : (a : RenumberedBlock) (r : Reach) (old new : List Operation) (named is shown : List BlockValue) (start so_far ranges : List Ranged) (steps : List ReachStep) (dims : List Dim) → start ≡ []
    → named ≡ map (operand_of a) r.indices → steps ≡ r.steps → IsIndexWay new so_far is (steps_passed a steps (way old start named)) → shown ≡ is → dims ≡ dims_at a.table r.memory
    → ranges ≡ so_far ++ ranges_by dims shown → IsIndexWay new ranges is (passed_to a r None old)
indices_passed a r old new named is shown start so_far ranges steps dims start_is named_is steps_is h shown_is dims_is ranges_is = (
  way_is.0,
  (
    ranges_is
        ∙ (ap (λ (l : List Ranged). l ++ ranges_by dims shown) way_is.1.0
        ∙ ap (λ (l : List Ranged). w.ranges ++ l) (ap (λ (ds : List Dim). ranges_by ds shown) dims_is ∙ ap (λ (s : List BlockValue). ranges_by (dims_at a.table r.memory) s) (shown_is ∙ way_is.1.1))),
    way_is.1.1,
  ),
)
  where
    w : IndexWay
    w = steps_passed a r.steps (way_begun a r old)

    way_is : IsIndexWay new so_far is (steps_passed a r.steps (way_begun a r old))
    way_is =
        subst (λ (ss : List ReachStep). IsIndexWay new so_far is (steps_passed a ss (way_begun a r old))) steps_is
        (subst (λ (n : List BlockValue). IsIndexWay new so_far is (steps_passed a steps (way old [] n))) named_is
        (subst (λ (l : List Ranged). IsIndexWay new so_far is (steps_passed a steps (way old l named))) start_is h))
