-- The blocks below the index are driven.
use Rattle.std.proofs.Common.{◌≡◌, drop}
use Rattle.dh_plan.specs.Passes.{uses_seen}
use Rattle.dh_plan.specs.PlainPlans.{operations_before}
use Rattle.dh_plan.specs.SeenPlans.{plan_seen}
use Rattle.dh_build.specs.DrivenUsers.{plan_times}
use Rattle.dh_build.proofs.PlanDriven.{DrivenSoFar}
use Rattle.dh_build.proofs.drivers.push_uses.Given as goal

abbrev pub invariant-loop-i : goal.invariant-loop-i
invariant-loop-i l = record {
  ports_left : l.ports ≡ drop (operations_before l.plan.blocks l.i) l.binding.ports;
  times_left : l.times ≡ drop (operations_before l.plan.blocks l.i) l.clocks;
  driven : DrivenSoFar l.fn.circuit l.circuit (plan_seen l.plan) (uses_seen l.binding) l.kinds l.wires
      (plan_times (plan_seen l.plan) l.active l.commits l.at l.clocks) l.i l.fn.drivers l.drivers;
}
