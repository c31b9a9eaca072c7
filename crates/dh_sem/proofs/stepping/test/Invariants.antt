-- The test was evaluated at the paths so far.
use Rattle.dh_sem.proofs.BlocksDone.{TestsSoFar}
use Rattle.dh_sem.proofs.stepping.test.Given as goal

abbrev pub invariant-loop-i : goal.invariant-loop-i
invariant-loop-i l = TestsSoFar l.scene l.fn.state l.lanes l.test l.i l.state l.first
