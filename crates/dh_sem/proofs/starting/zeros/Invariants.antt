-- So many were made.
use Rattle.std.proofs.Common.{◌≡◌, replicate}
use Rattle.dh_sem.proofs.starting.zeros.Given as goal

abbrev pub invariant-loop : goal.invariant-loop
invariant-loop l = l.list.items ≡ replicate l.counter 0
