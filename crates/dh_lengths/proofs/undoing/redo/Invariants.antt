use Rattle.std.proofs.Common.{◌≡◌, drop}
use Rattle.dh_events.specs.Tables.{table_at}
use Rattle.dh_lengths.specs.Undone.{redone}
use Rattle.dh_lengths.proofs.undoing.redo.Given as goal

abbrev pub invariant-loop-mark : goal.invariant-loop-mark
invariant-loop-mark l = redone (drop l.mark-index l.marks) (table_at l.variables.items) ≡ redone l.marks (table_at l.fn.variables.items)
