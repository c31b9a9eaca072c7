-- Whatever keys there come to be: where the rest of the row is noted, the whole run is.
use Rattle.std.proofs.Common.{◌-◌, length}
use Rattle.std.specs.List.{AllByRecursion}
use Rattle.dh_events.specs.Classes.{ExtendsKeys}
use Rattle.dh_ports.specs.Orders.{AreMarked}
use Rattle.dh_ports.specs.Runs.{moves_of_run, moves_in_row}
use Rattle.dh_ports.specs.Scanned.{IsMoveOf}
use Rattle.dh_ports.proofs.RunTurns.{NotesAll}
use Rattle.dh_ports.proofs.ordering.note_run.Given as goal

abbrev pub invariant-loop-slot : goal.invariant-loop-slot
invariant-loop-slot l =
    ExtendsKeys l.fn.classes l.classes
    × (NotesAll l.classes l.events (moves_in_row l.run.first l.slot (l.run.end - l.slot)) (moves_of_run l.run)
    × (AllByRecursion (IsMoveOf (length l.events)) (moves_in_row l.run.first l.slot (l.run.end - l.slot))
    × (AreMarked l.fn.classes l.fn.marked.items → AreMarked l.classes l.marked.items)))
