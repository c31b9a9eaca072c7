-- The marked ones before the index are numbered.
use Rattle.dh_swept.specs.KeptCells.{RenumbersMarked}
use Rattle.dh_swept.proofs.numbering.number_marked.Given as goal

abbrev pub invariant-loop-i : goal.invariant-loop-i
invariant-loop-i l = RenumbersMarked l.i l.flags l.at l.to
