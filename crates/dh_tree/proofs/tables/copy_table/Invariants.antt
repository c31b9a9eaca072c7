use Rattle.std.proofs.Common.{◌≡◌, ◌++◌, drop}
use Rattle.dh_tree.proofs.tables.copy_table.Given as goal

abbrev pub invariant-loop-entry : goal.invariant-loop-entry
invariant-loop-entry l = l.copy ++ drop l.entry-index l.table ≡ l.table
