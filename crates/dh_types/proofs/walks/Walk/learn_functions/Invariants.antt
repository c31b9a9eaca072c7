use Rattle.std.specs.Prelude.{◌≡◌, map, drop}
use Rattle.dh_tree.specs.Kinds.{function_fact}
use Rattle.dh_tree.specs.Seen.{defined_seen}
use Rattle.dh_types.specs.Walks.{typing_state_of, knows}
use Rattle.dh_types.proofs.walks.Walk.learn_functions.Given as goal

abbrev pub invariant-loop-function : goal.invariant-loop-function
invariant-loop-function l = knows (typing_state_of l.self) (map function_fact (map defined_seen (drop l.function-index l.functions))) ≡ knows (typing_state_of l.initial.self) (map function_fact (map defined_seen l.functions))
