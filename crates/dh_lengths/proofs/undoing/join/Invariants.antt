use Rattle.std.proofs.Common.{◌≡◌, drop}
use Rattle.dh_events.specs.Tables.{table_at}
use Rattle.dh_lengths.specs.Undone.{joined_all}
use Rattle.dh_lengths.proofs.undoing.join.Given as goal

abbrev pub invariant-loop-mark : goal.invariant-loop-mark
invariant-loop-mark l = joined_all l.test (drop l.mark-index l.marks) (table_at l.variables.items) ≡ joined_all l.test l.marks (table_at l.fn.variables.items)
