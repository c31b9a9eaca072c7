use Rattle.std.proofs.Common.{◌↔◌, drop}
use Rattle.std.specs.List.{AllByRecursion}
use Rattle.dh_tree.specs.Shapes.{IsMemory}
use Rattle.dh_net.proofs.tables.are_memories.Given as goal

abbrev pub invariant-loop-entry : goal.invariant-loop-entry
invariant-loop-entry l = AllByRecursion IsMemory (drop l.entry-index l.entries) ↔ AllByRecursion IsMemory l.entries
