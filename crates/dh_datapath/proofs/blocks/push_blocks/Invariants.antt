use Rattle.std.proofs.Common.{◌≡◌, drop}
use Rattle.dh_plan.specs.Passes.{uses_seen}
use Rattle.dh_plan.specs.PlainPlans.{operations_before}
use Rattle.dh_plan.specs.SeenPlans.{plan_seen}
use Rattle.dh_datapath.proofs.BlocksMade.{BlocksSoFar}
use Rattle.dh_datapath.proofs.blocks.push_blocks.Given as goal

abbrev pub invariant-loop-block : goal.invariant-loop-block
invariant-loop-block l = record {
  rest : l.rest ≡ drop (operations_before l.plan.blocks l.block-index) l.binding.ports;
  so_far : BlocksSoFar l.fn.circuit l.circuit (plan_seen l.plan) (uses_seen l.binding) l.registers l.block-index l.kinds l.values;
}
