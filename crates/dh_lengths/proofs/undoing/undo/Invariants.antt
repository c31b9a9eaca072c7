use Rattle.std.proofs.Common.{◌≡◌, take}
use Rattle.dh_events.specs.Tables.{table_at}
use Rattle.dh_lengths.specs.Undone.{undone_levels}
use Rattle.dh_lengths.proofs.undoing.undo.Given as goal

abbrev pub invariant-loop-i : goal.invariant-loop-i
invariant-loop-i l = undone_levels (take l.i l.log) (table_at l.variables.items) ≡ undone_levels l.log (table_at l.fn.variables.items)
