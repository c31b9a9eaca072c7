-- So many were made.
use Rattle.std.proofs.Common.{◌≡◌, replicate, None}
use Rattle.dh_code.proofs.places.none_declared.Given as goal

abbrev pub invariant-loop : goal.invariant-loop
invariant-loop l = l.found.items ≡ replicate l.counter None
