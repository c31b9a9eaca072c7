-- One block on: its clocks stand at the front of those that are left.
use Rattle.std.proofs.Common.{◌≡◌, ℕ, List, Some, arith, ap, sym, ◌∙◌, subst, drop, length}
use Rattle.std.specs.Prelude.{slice_get}
use Rattle.std.proofs.lemmas.List.{length-take-le}
use Rattle.dh_plan.specs.declared.operations.Operation.{Operation}
use Rattle.dh_plan.specs.declared.operations.PlanBlock.{PlanBlock}
use Rattle.dh_plan.specs.Passes.{timing_seen}
use Rattle.dh_plan.specs.SeenPlans.{plan_seen}
use Rattle.dh_bind.specs.Units.{AreUnitNumbers, BlockUnits}
use Rattle.dh_bind.proofs.Counted.{before_none, counted_none, counted_turn, rest_long, own_clocks, rest_next}
use Rattle.dh_bind.proofs.Flat.{got}
use Rattle.dh_bind.proofs.units.units_of.Goals as goal

pub loop-block-init : goal.loop-block-init
loop-block-init c = record {
  rest = c.as_slice-rest.ensures ∙ ap (λ (k : ℕ). drop k c.args.schedule.now.clock_of) (before_none c.args.plan.now.blocks);
  counted = subst (λ (l : List ℕ). AreUnitNumbers (plan_seen c.args.plan.now) (timing_seen c.args.schedule.now) 0 l) (sym c.new-units.ensures) (counted_none (plan_seen c.args.plan.now) (timing_seen c.args.schedule.now));
}

pub split_at-parts-requires : goal.split_at-parts-requires
split_at-parts-requires c =
    let there : slice_get c.args.plan.now.blocks c.loop-block.block-index ≡ Some c.block-item.result =
    subst (λ (l : List PlanBlock). slice_get l c.loop-block.block-index ≡ Some c.block-item.result) c.as_slice-block-items.ensures (got c.as_slice-block-items.result.now c.loop-block.block-index c.block-item.result (omega arith) c.block-item.is) in
    rest_long (plan_seen c.args.plan.now) (timing_seen c.args.schedule.now) c.loop-block.block-index c.block-item.result there c.requires c.loop-block.rest.now c.loop-block.invariant.rest c.as_slice-operations.result.now c.as_slice-operations.ensures

pub push_units-requires : goal.push_units-requires
push_units-requires c =
    let there : slice_get c.args.plan.now.blocks c.loop-block.block-index ≡ Some c.block-item.result =
    subst (λ (l : List PlanBlock). slice_get l c.loop-block.block-index ≡ Some c.block-item.result) c.as_slice-block-items.ensures (got c.as_slice-block-items.result.now c.loop-block.block-index c.block-item.result (omega arith) c.block-item.is) in
    ap (λ (l : List ℕ). length l) c.split_at-parts.ensures.front
    ∙ length-take-le (length c.as_slice-operations.result.now) c.loop-block.rest.now
    (rest_long (plan_seen c.args.plan.now) (timing_seen c.args.schedule.now) c.loop-block.block-index c.block-item.result there c.requires c.loop-block.rest.now c.loop-block.invariant.rest c.as_slice-operations.result.now c.as_slice-operations.ensures)

pub loop-block-preserved : goal.loop-block-preserved
loop-block-preserved c =
    let there : slice_get c.args.plan.now.blocks c.loop-block.block-index ≡ Some c.block-item.result =
    subst (λ (l : List PlanBlock). slice_get l c.loop-block.block-index ≡ Some c.block-item.result) c.as_slice-block-items.ensures (got c.as_slice-block-items.result.now c.loop-block.block-index c.block-item.result (omega arith) c.block-item.is) in
    record {
      rest = rest_next (plan_seen c.args.plan.now) (timing_seen c.args.schedule.now) c.loop-block.block-index c.block-item.result there c.loop-block.rest.now c.split_at-parts.result.1.now c.loop-block.invariant.rest
          c.as_slice-operations.result.now c.as_slice-operations.ensures c.split_at-parts.ensures.back;
      counted = counted_turn (plan_seen c.args.plan.now) (timing_seen c.args.schedule.now) c.loop-block.block-index c.block-item.result c.split_at-parts.result.0.now c.loop-block.units c.push_units.new.units there c.loop-block.invariant.counted
          (subst (λ (l : List Operation). BlockUnits l c.split_at-parts.result.0.now (length l) c.loop-block.units c.push_units.new.units) c.as_slice-operations.ensures c.in_ok-push_units.ensures)
          (own_clocks (plan_seen c.args.plan.now) (timing_seen c.args.schedule.now) c.loop-block.block-index c.block-item.result there c.loop-block.rest.now c.split_at-parts.result.0.now c.loop-block.invariant.rest
          c.as_slice-operations.result.now c.as_slice-operations.ensures c.split_at-parts.ensures.front);
    }
