-- The least is kept from here among the runs that are left as from the start among all.
use Rattle.std.proofs.Common.{◌≡◌, drop, length}
use Rattle.std.specs.List.{AllByRecursion}
use Rattle.dh_tree.specs.LeastBreach.{least_of}
use Rattle.dh_ports.specs.Levels.{LevelsKept}
use Rattle.dh_ports.specs.Passing.{all_from, late_from}
use Rattle.dh_ports.specs.Runs.{moves_in}
use Rattle.dh_ports.specs.Scanned.{IsMoveOf}
use Rattle.dh_ports.proofs.ordering.keep_all.Given as goal

abbrev pub invariant-loop-run : goal.invariant-loop-run
invariant-loop-run l =
    LevelsKept l.levels
    × ((least_of l.kept (late_from l.classes l.events l.levels (moves_in (drop l.run-index l.moves))) ≡ least_of l.fn.kept (all_from l.classes l.events l.fn.starts.items (moves_in l.moves)))
    × AllByRecursion (IsMoveOf (length l.events)) (moves_in (drop l.run-index l.moves)))
