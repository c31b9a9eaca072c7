use Rattle.std.proofs.Common.{◌↔◌, drop}
use Rattle.dh_tree.specs.Shapes.{HasLocalsLast}
use Rattle.dh_net.proofs.tables.has_locals_last.Given as goal

abbrev pub invariant-loop-i : goal.invariant-loop-i
invariant-loop-i l = HasLocalsLast (drop l.i l.entries) ↔ HasLocalsLast l.entries
