-- What stands behind the runs that are left is found from here as behind all from the start, whatever flags there come
-- to be.
use Rattle.std.proofs.Common.{◌≡◌, Bool, List, ◌++◌, drop, length}
use Rattle.std.specs.List.{AllByRecursion}
use Rattle.dh_events.specs.Noted.{all_seen}
use Rattle.dh_ports.specs.declared.moves.Move.{Move}
use Rattle.dh_ports.specs.Levels.{LevelsKept}
use Rattle.dh_ports.specs.Passing.{beyond_from}
use Rattle.dh_ports.specs.Runs.{moves_in}
use Rattle.dh_ports.specs.Scanned.{IsMoveOf}
use Rattle.dh_ports.proofs.spending.spend_all.Given as goal

abbrev pub invariant-loop-run : goal.invariant-loop-run
invariant-loop-run l =
    LevelsKept l.levels
    × (((more : List Bool) (rest : List Move) → beyond_from (all_seen l.events) (l.shared ++ more) l.levels (moves_in (drop l.run-index l.moves) ++ rest) ≡ beyond_from (all_seen l.events) (l.shared ++ more) l.fn.levels (moves_in l.moves ++ rest))
    × AllByRecursion (IsMoveOf (length l.shared)) (moves_in (drop l.run-index l.moves)))
