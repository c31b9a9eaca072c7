-- Those found so far, and those of the rest, are all.
use Rattle.std.proofs.Common.{◌≡◌, ◌++◌, map, drop}
use Rattle.dh_tree.specs.Seen.{declared_seen}
use Rattle.dh_tree.specs.Memories.{outside_memory}
use Rattle.dh_tree.specs.Collected.{found_memories}
use Rattle.dh_tree.proofs.trees.memories.find_decls.Given as goal

abbrev pub invariant-loop-decl : goal.invariant-loop-decl
invariant-loop-decl l = found_memories l.found.items ++ map outside_memory (map declared_seen (drop l.decl-index l.decls)) ≡ map outside_memory (map declared_seen l.decls)
