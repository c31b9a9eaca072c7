-- Those so far are numbered.
use Rattle.std.proofs.Common.{◌≡◌, length, take}
use Rattle.dh_tree.specs.Collected.{found_memories, AreNumbersByEntity}
use Rattle.dh_tree.proofs.trees.memories.numbers.Given as goal

abbrev pub invariant-loop-number : goal.invariant-loop-number
invariant-loop-number l = (length l.numbers.items ≡ l.entities) × AreNumbersByEntity (found_memories (take l.number l.found)) l.numbers.items
