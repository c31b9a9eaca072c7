use Rattle.std.specs.Prelude.{◌≡◌, Some, length, map, drop}
use Rattle.dh_tree.specs.Kinds.{of_memory}
use Rattle.dh_tree.specs.Seen.{declared_seen}
use Rattle.dh_types.specs.Walks.{typing_state_of, knows}
use Rattle.dh_types.proofs.walks.Walk.learn_memories.Given as goal

abbrev pub invariant-loop-decl : goal.invariant-loop-decl
invariant-loop-decl l = knows (typing_state_of l.self) (map (λ d. of_memory (Some d.shape.kind) (length d.shape.dims)) (map declared_seen (drop l.decl-index l.decls))) ≡ knows (typing_state_of l.initial.self) (map (λ d. of_memory (Some d.shape.kind) (length d.shape.dims)) (map declared_seen l.decls))
