use Rattle.std.proofs.Common.{drop}
use Rattle.dh_build.proofs.MemoriesListed.{Listing}
use Rattle.dh_build.proofs.memories.list_memories.Given as goal

abbrev pub invariant-loop-entry : goal.invariant-loop-entry
invariant-loop-entry l = Listing l.memories l.next l.table (drop l.entry-index l.table)
