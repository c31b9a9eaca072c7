-- Whatever keys there come to be: where the runs that are left are noted, all are.
use Rattle.std.proofs.Common.{drop, length}
use Rattle.std.specs.List.{AllByRecursion}
use Rattle.dh_ports.specs.Orders.{AreMarked}
use Rattle.dh_ports.specs.Runs.{moves_in}
use Rattle.dh_ports.specs.Scanned.{IsMoveOf}
use Rattle.dh_ports.proofs.UnreadPhases.{NeedsAll}
use Rattle.dh_ports.proofs.ordering.written_banks.Given as goal

abbrev pub invariant-loop-run : goal.invariant-loop-run
invariant-loop-run l =
    NeedsAll l.classes l.events (moves_in (drop l.run-index l.moves)) (moves_in l.moves)
    × (AllByRecursion (IsMoveOf (length l.events)) (moves_in (drop l.run-index l.moves)) × AreMarked l.classes l.marked.items)
