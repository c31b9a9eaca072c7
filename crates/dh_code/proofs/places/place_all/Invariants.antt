-- The variables so far are found.
use Rattle.std.proofs.Common.{◌+◌, length}
use Rattle.dh_code.proofs.Declaring.{FoundSoFar}
use Rattle.dh_code.proofs.places.place_all.Given as goal

abbrev pub invariant-loop-variable : goal.invariant-loop-variable
invariant-loop-variable l = FoundSoFar (l.fn.entities + length l.hidden) l.variable-items l.variable-index l.found.items
