-- The entries so far, and those of the rest, are all.
use Rattle.std.proofs.Common.{◌≡◌, ◌++◌, map, drop}
use Rattle.dh_tree.specs.Memories.{entry_of}
use Rattle.dh_tree.specs.Collected.{found_memories}
use Rattle.dh_tree.proofs.trees.memories.entries.Given as goal

abbrev pub invariant-loop-memory : goal.invariant-loop-memory
invariant-loop-memory l = l.table ++ map entry_of (found_memories (drop l.memory-index l.found)) ≡ map entry_of (found_memories l.found)
