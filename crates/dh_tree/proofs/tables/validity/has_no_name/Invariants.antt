use Rattle.std.proofs.Common.{◌↔◌, drop}
use Rattle.dh_tree.specs.Tables.{HasNoName}
use Rattle.dh_tree.proofs.tables.validity.has_no_name.Given as goal

abbrev pub invariant-loop-entry : goal.invariant-loop-entry
invariant-loop-entry l = HasNoName l.name (drop l.entry-index l.entries) ↔ HasNoName l.name l.entries
