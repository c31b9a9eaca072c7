use Rattle.std.proofs.Common.{◌↔◌, drop}
use Rattle.dh_tree.specs.Shapes.{outside_of}
use Rattle.dh_tree.specs.Tables.{HasDistinctNames}
use Rattle.dh_net.proofs.tables.has_distinct_names.Given as goal

abbrev pub invariant-loop-i : goal.invariant-loop-i
invariant-loop-i l = HasDistinctNames (outside_of (drop l.i l.entries)) ↔ HasDistinctNames (outside_of l.entries)
