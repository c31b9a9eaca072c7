-- The blocks below the index have their wires.
use Rattle.dh_control.specs.StateWires.{active_shown}
use Rattle.dh_control.specs.WireLists.{EachTells}
use Rattle.dh_control.proofs.standing.push_active.Given as goal

abbrev pub invariant-loop-i : goal.invariant-loop-i
invariant-loop-i l = EachTells l.fn.circuit l.circuit (active_shown l.stands) l.i l.active
