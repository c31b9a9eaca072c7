-- What stands behind the rest of the row is found from here as behind the whole run from the start, whatever flags there
-- come to be.
use Rattle.std.proofs.Common.{◌≡◌, ◌-◌, Bool, List, ◌++◌, length}
use Rattle.std.specs.List.{AllByRecursion}
use Rattle.dh_events.specs.Noted.{all_seen}
use Rattle.dh_ports.specs.declared.moves.Move.{Move}
use Rattle.dh_ports.specs.Levels.{LevelsKept}
use Rattle.dh_ports.specs.Passing.{beyond_from}
use Rattle.dh_ports.specs.Runs.{moves_of_run, moves_in_row}
use Rattle.dh_ports.specs.Scanned.{IsMoveOf}
use Rattle.dh_ports.proofs.spending.spend_run.Given as goal

abbrev pub invariant-loop-slot : goal.invariant-loop-slot
invariant-loop-slot l =
    LevelsKept l.levels
    × (((more : List Bool) (rest : List Move) → beyond_from (all_seen l.events) (l.shared ++ more) l.levels (moves_in_row l.run.first l.slot (l.run.end - l.slot) ++ rest) ≡ beyond_from (all_seen l.events) (l.shared ++ more) l.fn.levels (moves_of_run l.run ++ rest))
    × AllByRecursion (IsMoveOf (length l.shared)) (moves_in_row l.run.first l.slot (l.run.end - l.slot)))
