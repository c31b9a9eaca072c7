-- The values below the index are moved.
use Rattle.dh_control.proofs.MovedLists.{MovedSoFar}
use Rattle.dh_control.proofs.moving.push_moved.Given as goal

abbrev pub invariant-loop-i : goal.invariant-loop-i
invariant-loop-i l = MovedSoFar l.fn.circuit l.circuit l.widths l.wires l.moves l.i l.news
