-- What stands behind the rest of the row is kept from here as behind the whole run from the start.
use Rattle.std.proofs.Common.{◌≡◌, ◌-◌, List, ◌++◌, length}
use Rattle.std.specs.List.{AllByRecursion}
use Rattle.dh_tree.specs.LeastBreach.{least_of}
use Rattle.dh_ports.specs.declared.moves.Move.{Move}
use Rattle.dh_ports.specs.Levels.{LevelsKept}
use Rattle.dh_ports.specs.Passing.{late_from}
use Rattle.dh_ports.specs.Runs.{moves_of_run, moves_in_row}
use Rattle.dh_ports.specs.Scanned.{IsMoveOf}
use Rattle.dh_ports.proofs.ordering.keep_run.Given as goal

abbrev pub invariant-loop-slot : goal.invariant-loop-slot
invariant-loop-slot l =
    LevelsKept l.levels
    × (((rest : List Move) → least_of l.kept (late_from l.classes l.events l.levels (moves_in_row l.run.first l.slot (l.run.end - l.slot) ++ rest)) ≡ least_of l.fn.kept (late_from l.classes l.events l.fn.levels (moves_of_run l.run ++ rest)))
    × AllByRecursion (IsMoveOf (length l.events)) (moves_in_row l.run.first l.slot (l.run.end - l.slot)))
