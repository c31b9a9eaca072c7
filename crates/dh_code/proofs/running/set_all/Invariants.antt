-- The variables so far are set.
use Rattle.dh_code.proofs.KeptValues.{SetSoFar}
use Rattle.dh_code.proofs.running.set_all.Given as goal

abbrev pub invariant-loop-i : goal.invariant-loop-i
invariant-loop-i l = SetSoFar l.fn.state l.state l.ranks l.depth l.values l.found l.i
