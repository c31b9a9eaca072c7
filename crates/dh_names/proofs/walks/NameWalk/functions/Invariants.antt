use Rattle.std.specs.Prelude.{◌^◌, ◌+◌, ◌≡◌}
use Rattle.dh_tree.specs.Seen.{defined_seen}
use Rattle.dh_names.specs.Walks.{state_of}
use Rattle.dh_names.specs.Programs.{IsOutside}
use Rattle.dh_base.proofs.InPlace.{Unvisited, FitsSoFar}
use Rattle.dh_names.proofs.FunctionsDone.{function_step, function_made, state_size, function_cost, function_grows}
use Rattle.dh_names.proofs.walks.NameWalk.functions.Given as goal

abbrev pub invariant-loop-function : goal.invariant-loop-function
invariant-loop-function l = record {
  unvisited : Unvisited l.initial.function-items l.function-items l.function-index;
  so : FitsSoFar defined_seen function_step function_made state_size function_cost function_grows (2 ^ 32) l.initial.function-items l.function-items l.function-index (l.initial.number, state_of l.initial.self) (l.number, state_of l.self);
  outside : IsOutside (state_of l.self);
  number : l.number ≡ l.initial.number + l.function-index;
}
