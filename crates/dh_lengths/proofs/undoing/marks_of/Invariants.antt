use Rattle.std.proofs.Common.{◌≡◌, take}
use Rattle.dh_events.specs.Tables.{table_at}
use Rattle.dh_lengths.specs.Undone.{marks_with_levels}
use Rattle.dh_lengths.proofs.undoing.marks_of.Given as goal

abbrev pub invariant-loop-mark : goal.invariant-loop-mark
invariant-loop-mark l = l.marks.items ≡ marks_with_levels (table_at l.variables) (take l.mark-index l.log)
