use Rattle.std.proofs.Common.{◌↔◌, drop}
use Rattle.std.specs.List.{AllByRecursion}
use Rattle.dh_tree.specs.Tables.{IsEntry}
use Rattle.dh_tree.proofs.tables.validity.are_entries.Given as goal

abbrev pub invariant-loop-entry : goal.invariant-loop-entry
invariant-loop-entry l = AllByRecursion IsEntry (drop l.entry-index l.entries) ↔ AllByRecursion IsEntry l.entries
