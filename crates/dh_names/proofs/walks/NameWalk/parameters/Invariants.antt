use Rattle.std.specs.Prelude.{◌^◌, map}
use Rattle.dh_tree.specs.Seen.{formal_seen}
use Rattle.dh_names.specs.Walks.{state_of}
use Rattle.dh_base.proofs.InPlace.{Unvisited, Fits, FitsSoFar}
use Rattle.dh_names.proofs.ListsDone.{entity_count}
use Rattle.dh_names.proofs.FunctionsDone.{formal_step, formal_made, one_name, formal_grows}
use Rattle.dh_names.proofs.walks.NameWalk.parameters.Given as goal

abbrev pub invariant-loop-parameter : goal.invariant-loop-parameter
invariant-loop-parameter l =
    Unvisited l.initial.parameter-items l.parameter-items l.parameter-index
    × (Fits formal_seen formal_step formal_made entity_count one_name formal_grows (2 ^ 32) (state_of l.initial.self) (map formal_seen l.initial.parameter-items)
    → FitsSoFar formal_seen formal_step formal_made entity_count one_name formal_grows (2 ^ 32) l.initial.parameter-items l.parameter-items l.parameter-index (state_of l.initial.self) (state_of l.self))
