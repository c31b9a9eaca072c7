-- So many guards so far.
use Rattle.std.proofs.Common.{◌≡◌, replicate, None}
use Rattle.dh_gathering.proofs.blocks.no_guards.Given as goal

abbrev pub invariant-loop : goal.invariant-loop
invariant-loop l = l.guards.items ≡ replicate l.counter None
