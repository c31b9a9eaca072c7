use Rattle.std.specs.Prelude.{◌≡◌, map, drop}
use Rattle.dh_tree.specs.Kinds.{parameter_fact}
use Rattle.dh_tree.specs.Seen.{formal_seen}
use Rattle.dh_types.specs.Walks.{typing_state_of, knows}
use Rattle.dh_types.proofs.walks.Walk.learn_parameters.Given as goal

abbrev pub invariant-loop-parameter : goal.invariant-loop-parameter
invariant-loop-parameter l = knows (typing_state_of l.self) (map (λ f. parameter_fact f.kind f.shape) (map formal_seen (drop l.parameter-index l.parameters))) ≡ knows (typing_state_of l.initial.self) (map (λ f. parameter_fact f.kind f.shape) (map formal_seen l.parameters))
