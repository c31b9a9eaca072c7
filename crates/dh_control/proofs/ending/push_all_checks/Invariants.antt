-- The checks of the blocks before the index are tested.
use Rattle.dh_control.proofs.BlocksAdded.{ChecksSoFar}
use Rattle.dh_control.proofs.ending.push_all_checks.Given as goal

abbrev pub invariant-loop-i : goal.invariant-loop-i
invariant-loop-i l = ChecksSoFar l.fn.circuit l.circuit l.active l.wires l.blocks l.i l.fn.tests l.tests
