-- The numbers below the index have their wires.
use Rattle.dh_cells.specs.ShownValues.{match_shown}
use Rattle.dh_control.specs.WireLists.{EachTells}
use Rattle.dh_control.proofs.standing.push_numbers.Given as goal

abbrev pub invariant-loop-i : goal.invariant-loop-i
invariant-loop-i l = EachTells l.fn.circuit l.circuit (match_shown l.wire) l.i l.wires
