use Rattle.std.proofs.Common.{◌∙◌}
use Rattle.dh_plan.specs.Passes.{uses_seen}
use Rattle.dh_plan.specs.SeenPlans.{plan_seen}
use Rattle.dh_build.proofs.PartsMade.{has_registers, shown_made}
use Rattle.dh_build.proofs.building.push_shown.Goals as goal

pub push_blocks-requires-clause-registers : goal.push_blocks-requires-clause-registers
push_blocks-requires-clause-registers c =
    has_registers c.push_own.new.circuit (plan_seen c.args.plan.now) c.args.sizes.now (c.in_ok-own.ensures.grows.widths ∙ c.requires.over.widths) c.requires.sizes.widths_are c.requires.can.kinds

pub returns : goal.returns
returns c =
    shown_made c.args.circuit.now c.push_own.new.circuit c.push_blocks.new.circuit (plan_seen c.args.plan.now) (uses_seen c.args.binding.now) c.args.sizes.now c.in_ok-own.own c.in_ok-wires.wires c.in_ok-own.ensures c.in_ok-wires.ensures
