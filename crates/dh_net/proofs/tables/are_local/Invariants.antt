use Rattle.std.proofs.Common.{◌↔◌, drop}
use Rattle.std.specs.List.{AllByRecursion}
use Rattle.dh_tree.specs.Shapes.{IsLocal}
use Rattle.dh_net.proofs.tables.are_local.Given as goal

abbrev pub invariant-loop-entry : goal.invariant-loop-entry
invariant-loop-entry l = AllByRecursion IsLocal (drop l.entry-index l.entries) ↔ AllByRecursion IsLocal l.entries
