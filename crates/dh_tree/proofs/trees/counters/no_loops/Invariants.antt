-- So many were made.
use Rattle.std.proofs.Common.{◌≡◌, replicate, None}
use Rattle.dh_tree.proofs.trees.counters.no_loops.Given as goal

abbrev pub invariant-loop : goal.invariant-loop
invariant-loop l = l.slots.items ≡ replicate l.counter None
