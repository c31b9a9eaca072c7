use Rattle.std.proofs.Common.{map, ◌∙◌}
use Rattle.dh_cells.proofs.CellsAppended.{grows_then}
use Rattle.dh_datapath.proofs.PlanWiresKept.{plan_later}
use Rattle.dh_plan.specs.Passes.{uses_seen}
use Rattle.dh_plan.specs.SeenPlans.{plan_seen}
use Rattle.dh_value.specs.Words.{width_of}
use Rattle.dh_build.proofs.PartsMade.{registers_sized, fits_as, checks_as, sets_as, ways_as, own_later, control_as}
use Rattle.dh_build.proofs.SuitsShown.{checks_suit, sets_suit}
use Rattle.dh_build.proofs.building.push_parts.Goals as goal

pub push_control-requires-clause-registers : goal.push_control-requires-clause-registers
push_control-requires-clause-registers c =
    registers_sized c.push_shown.new.circuit (plan_seen c.args.plan.now) (uses_seen c.args.binding.now) c.in_ok-shown.shown.wires c.as_slice.result.now c.as_slice-2.result.now c.in_ok-shown.ensures.plan_shown
    (c.as_slice.ensures ∙ c.requires.sizes.widths_are) c.as_slice-2.ensures

pub push_control-requires-clause-fits : goal.push_control-requires-clause-fits
push_control-requires-clause-fits c =
    fits_as c.args.sizes.now.lengths c.as_slice-5.result.now c.args.sizes.now.clock_width c.in_ok-shown.shown.own.clock_width c.as_slice-5.ensures c.in_ok-shown.ensures.clock_width_is c.requires.sizes.lengths_fit

pub push_control-requires-clause-checks : goal.push_control-requires-clause-checks
push_control-requires-clause-checks c =
    checks_as c.push_shown.new.circuit c.in_ok-shown.shown.wires.values c.as_slice-3.result.now c.args.plan.now.blocks c.as_slice-4.result.now c.as_slice-3.ensures c.as_slice-4.ensures
    (checks_suit c.push_shown.new.circuit (plan_seen c.args.plan.now) (uses_seen c.args.binding.now) c.in_ok-shown.shown.wires c.in_ok-shown.ensures.plan_shown c.requires.can.formed c.requires.can.addressed c.requires.can.few_faults)

pub push_control-requires-clause-sets : goal.push_control-requires-clause-sets
push_control-requires-clause-sets c =
    sets_as c.push_shown.new.circuit (map width_of c.args.plan.now.registers) c.as_slice.result.now c.in_ok-shown.shown.wires.values c.as_slice-3.result.now c.args.plan.now.blocks c.as_slice-4.result.now
    (c.as_slice.ensures ∙ c.requires.sizes.widths_are) c.as_slice-3.ensures c.as_slice-4.ensures
    (sets_suit c.push_shown.new.circuit (plan_seen c.args.plan.now) (uses_seen c.args.binding.now) c.in_ok-shown.shown.wires c.in_ok-shown.ensures.plan_shown c.requires.can.formed c.requires.can.addressed)

pub push_control-requires-clause-ways : goal.push_control-requires-clause-ways
push_control-requires-clause-ways c = ways_as c.args.states.now c.args.plan.now.registers c.as_slice.result.now (c.as_slice.ensures ∙ c.requires.sizes.widths_are) c.requires.can.ways

pub push_drivers-requires-clause-own : goal.push_drivers-requires-clause-own
push_drivers-requires-clause-own c = own_later c.push_shown.new.circuit c.push_control.new.circuit c.in_ok-shown.shown.own c.in_ok-control.ensures.grows c.in_ok-shown.ensures.own

pub push_drivers-requires-clause-plan_shown : goal.push_drivers-requires-clause-plan_shown
push_drivers-requires-clause-plan_shown c =
    plan_later c.push_shown.new.circuit c.push_control.new.circuit (plan_seen c.args.plan.now) (uses_seen c.args.binding.now) c.in_ok-shown.shown.wires c.in_ok-control.ensures.grows c.in_ok-shown.ensures.plan_shown

pub returns : goal.returns
returns c = record {
  grows =
      grows_then c.args.circuit.now c.push_shown.new.circuit c.push_drivers.new.circuit c.in_ok-shown.ensures.grows
      (grows_then c.push_shown.new.circuit c.push_control.new.circuit c.push_drivers.new.circuit c.in_ok-control.ensures.grows c.in_ok-drivers.ensures.grows);
  first = c.push_shown.new.circuit;
  second = c.push_control.new.circuit;
  shown_added = c.in_ok-shown.ensures;
  control_made =
      control_as c.push_shown.new.circuit c.push_control.new.circuit c.in_ok-shown.shown.own c.args.sizes.now.widths c.as_slice.result.now c.in_ok-shown.shown.wires.registers.wires c.as_slice-2.result.now
      c.in_ok-shown.shown.wires.values c.as_slice-3.result.now c.args.plan.now.blocks c.as_slice-4.result.now c.args.states.now c.args.sizes.now.lengths c.as_slice-5.result.now c.in_ok-control.control c.as_slice.ensures
      c.as_slice-2.ensures c.as_slice-3.ensures c.as_slice-4.ensures c.as_slice-5.ensures c.in_ok-control.ensures;
  drivers_added = c.in_ok-drivers.ensures;
}
