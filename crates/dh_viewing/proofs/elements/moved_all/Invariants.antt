-- what is left leads behind the numbers so far to what all leads to
use Rattle.dh_viewing.proofs.MovedNumbers.{Moving}
use Rattle.dh_viewing.proofs.elements.moved_all.Given as goal

abbrev pub invariant-loop-i : goal.invariant-loop-i
invariant-loop-i l = Moving l.dims l.factors l.offsets l.indices l.i l.index
