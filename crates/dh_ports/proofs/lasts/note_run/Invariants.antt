-- Whatever comes to be noted: where it is noted of the rest of the row, it is of the whole run.
use Rattle.std.proofs.Common.{◌-◌, length}
use Rattle.std.specs.List.{AllByRecursion}
use Rattle.dh_ports.specs.Runs.{moves_of_run, moves_in_row}
use Rattle.dh_ports.specs.Scanned.{IsMoveOf}
use Rattle.dh_ports.proofs.AheadNotes.{NotesRest}
use Rattle.dh_ports.proofs.lasts.note_run.Given as goal

abbrev pub invariant-loop-slot : goal.invariant-loop-slot
invariant-loop-slot l =
    NotesRest l.events l.lasts (moves_in_row l.run.first l.slot (l.run.end - l.slot)) l.fn.lasts (moves_of_run l.run)
    × AllByRecursion (IsMoveOf (length l.events)) (moves_in_row l.run.first l.slot (l.run.end - l.slot))
