-- The wires below the index have theirs.
use Rattle.dh_control.specs.StateWires.{with_each_shown}
use Rattle.dh_control.specs.WireLists.{EachTells}
use Rattle.dh_control.proofs.standing.push_each.Given as goal

abbrev pub invariant-loop-i : goal.invariant-loop-i
invariant-loop-i l = EachTells l.fn.circuit l.circuit (with_each_shown l.test l.wires) l.i l.all
