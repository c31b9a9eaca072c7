-- Whatever comes to be noted: where it is noted of the runs that are left, it is of all.
use Rattle.std.proofs.Common.{drop, length}
use Rattle.std.specs.List.{AllByRecursion}
use Rattle.dh_ports.specs.Runs.{moves_in}
use Rattle.dh_ports.specs.Scanned.{IsMoveOf}
use Rattle.dh_ports.proofs.AheadNotes.{NotesRest}
use Rattle.dh_ports.proofs.lasts.note_runs.Given as goal

abbrev pub invariant-loop-run : goal.invariant-loop-run
invariant-loop-run l =
    NotesRest l.events l.lasts (moves_in (drop l.run-index l.runs)) l.fn.lasts (moves_in l.runs)
    × AllByRecursion (IsMoveOf (length l.events)) (moves_in (drop l.run-index l.runs))
