use Rattle.std.proofs.Common.{◌↔◌, drop}
use Rattle.dh_tree.specs.Shapes.{outside_of}
use Rattle.dh_tree.specs.Tables.{HasNoName}
use Rattle.dh_net.proofs.tables.has_no_name.Given as goal

abbrev pub invariant-loop-entry : goal.invariant-loop-entry
invariant-loop-entry l = HasNoName l.name (outside_of (drop l.entry-index l.entries)) ↔ HasNoName l.name (outside_of l.entries)
