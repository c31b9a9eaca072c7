-- So many were made.
use Rattle.std.proofs.Common.{◌≡◌, replicate}
use Rattle.dh_ports.proofs.sharing.ones.Given as goal

abbrev pub invariant-loop : goal.invariant-loop
invariant-loop l = l.ones.items ≡ replicate l.counter 1
