-- The states before the index have their wires.
use Rattle.dh_control.proofs.StandsTell.{StandsSoFar}
use Rattle.dh_control.proofs.standing.push_stands.Given as goal

abbrev pub invariant-loop-i : goal.invariant-loop-i
invariant-loop-i l = StandsSoFar l.fn.circuit l.circuit l.wire l.states l.i l.stands
