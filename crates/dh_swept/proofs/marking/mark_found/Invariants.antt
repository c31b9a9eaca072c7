-- What the wires need that were found before is marked.
use Rattle.dh_swept.proofs.WiresFound.{IsLooked}
use Rattle.dh_swept.proofs.marking.mark_found.Given as goal

abbrev pub invariant-loop-place : goal.invariant-loop-place
invariant-loop-place l = IsLooked l.net l.place l.marks
