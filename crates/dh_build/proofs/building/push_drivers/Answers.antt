use Rattle.dh_datapath.proofs.PlanWiresKept.{plan_later}
use Rattle.dh_plan.specs.Passes.{uses_seen}
use Rattle.dh_plan.specs.SeenPlans.{plan_seen}
use Rattle.dh_build.proofs.PartsMade.{wires_as, told_wires, early_as, suits_as, memories_as, drivers_made}
use Rattle.dh_build.proofs.SuitsShown.{uses_suit}
use Rattle.dh_build.proofs.building.push_drivers.Goals as goal

pub push_uses-requires-clause-active : goal.push_uses-requires-clause-active
push_uses-requires-clause-active c =
    wires_as c.args.circuit.now c.push_numbers.new.circuit c.args.control.now.activity.active c.as_slice-4.result.now c.in_ok-at.ensures.grows c.as_slice-4.ensures c.requires.control.active

pub push_uses-requires-clause-commits : goal.push_uses-requires-clause-commits
push_uses-requires-clause-commits c =
    wires_as c.args.circuit.now c.push_numbers.new.circuit c.args.control.now.outcome.commits c.as_slice-5.result.now c.in_ok-at.ensures.grows c.as_slice-5.ensures c.requires.control.commits

pub push_uses-requires-clause-at : goal.push_uses-requires-clause-at
push_uses-requires-clause-at c =
    told_wires c.args.circuit.now c.push_numbers.new.circuit c.args.shown.now.own.clock c.args.sizes.now.longest c.in_ok-at.at c.as_slice-6.result.now c.in_ok-at.ensures c.as_slice-6.ensures

pub push_uses-requires-clause-early : goal.push_uses-requires-clause-early
push_uses-requires-clause-early c =
    early_as c.args.sizes.now.clocks c.as_slice-7.result.now c.in_ok-at.at c.as_slice-6.result.now c.args.sizes.now.longest c.as_slice-7.ensures c.as_slice-6.ensures c.in_ok-at.ensures.long c.requires.sizes.early

pub push_uses-requires-clause-suit : goal.push_uses-requires-clause-suit
push_uses-requires-clause-suit c =
    suits_as c.push_numbers.new.circuit (plan_seen c.args.plan.now) (uses_seen c.args.binding.now) c.args.shown.now.wires.kinds c.as_slice-2.result.now c.args.shown.now.wires.values c.as_slice-3.result.now c.as_slice-8.result.now
    c.as_slice-2.ensures c.as_slice-3.ensures
    (uses_suit c.push_numbers.new.circuit (plan_seen c.args.plan.now) (uses_seen c.args.binding.now) c.args.shown.now.wires
    (plan_later c.args.circuit.now c.push_numbers.new.circuit (plan_seen c.args.plan.now) (uses_seen c.args.binding.now) c.args.shown.now.wires c.in_ok-at.ensures.grows c.requires.plan_shown) c.requires.can.formed c.requires.can.addressed
    c.requires.can.ports c.as_slice-8.result.now
    (memories_as c.args.plan.now.table c.as_slice.result.now c.in_ok-memories.memories c.as_slice-8.result.now c.as_slice.ensures c.as_slice-8.ensures c.in_ok-memories.ensures))

pub returns : goal.returns
returns c =
    drivers_made c.args.circuit.now c.push_numbers.new.circuit c.push_uses.new.circuit (plan_seen c.args.plan.now) (uses_seen c.args.binding.now) c.args.sizes.now c.args.shown.now c.args.control.now c.in_ok-at.at c.new-drivers.result
    c.push_uses.new.drivers c.as_slice-2.result.now c.as_slice-3.result.now c.as_slice-4.result.now c.as_slice-5.result.now c.as_slice-6.result.now c.as_slice-7.result.now c.as_slice-2.ensures c.as_slice-3.ensures c.as_slice-4.ensures
    c.as_slice-5.ensures c.as_slice-6.ensures c.as_slice-7.ensures c.in_ok-at.ensures c.new-drivers.ensures c.in_ok-push_uses.ensures
