use Rattle.std.proofs.Common.{◌≡◌, drop}
use Rattle.dh_plan.specs.Passes.{timing_seen}
use Rattle.dh_plan.specs.PlainPlans.{operations_before}
use Rattle.dh_plan.specs.SeenPlans.{plan_seen}
use Rattle.dh_bind.specs.Units.{AreUnitNumbers}
use Rattle.dh_bind.proofs.units.units_of.Given as goal

abbrev pub invariant-loop-block : goal.invariant-loop-block
invariant-loop-block l = record {
  rest : l.rest ≡ drop (operations_before l.plan.blocks l.block-index) l.schedule.clock_of;
  counted : AreUnitNumbers (plan_seen l.plan) (timing_seen l.schedule) l.block-index l.units;
}
