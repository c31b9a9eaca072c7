use Rattle.dh_tree.specs.Seen.{defined_seen}
use Rattle.dh_types.specs.Walks.{typing_state_of}
use Rattle.dh_base.proofs.InPlace.{Unvisited, SoFar}
use Rattle.dh_types.proofs.ListsDone.{function_step, function_made}
use Rattle.dh_types.proofs.walks.Walk.functions.Given as goal

abbrev pub invariant-loop-function : goal.invariant-loop-function
invariant-loop-function l =
    Unvisited l.initial.function-items l.function-items l.function-index
    × SoFar defined_seen function_step function_made l.initial.function-items l.function-items l.function-index (typing_state_of l.initial.self) (typing_state_of l.self)
