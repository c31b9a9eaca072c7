use Rattle.std.proofs.Common.{◌∙◌, ap, length, Some}
use Rattle.dh_tree.specs.Kinds.{of_memory}
use Rattle.dh_tree.specs.Seen.{declared_seen}
use Rattle.dh_types.specs.Walks.{typing_state_of, learned}
use Rattle.dh_types.proofs.Known.{known_next, known_all}
use Rattle.dh_types.proofs.walks.Walk.learn_memories.Goals as goal

pub loop-decl-preserved : goal.loop-decl-preserved
loop-decl-preserved c =
    known_next declared_seen (λ d. of_memory (Some d.shape.kind) (length d.shape.dims)) (typing_state_of c.loop-decl.self) (typing_state_of c.learn.new.self) _ c.args.decls.now c.loop-decl.decl-index c.decl-item.result c.loop-decl-test.true c.decl-item.is
    (c.in_ok-learn.ensures ∙ ap (λ f. learned (typing_state_of c.loop-decl.self) f) c.memory_fact.ensures) c.loop-decl.invariant

pub returns : goal.returns
returns c = known_all declared_seen (λ d. of_memory (Some d.shape.kind) (length d.shape.dims)) (typing_state_of c.loop-decl.self) _ c.args.decls.now c.loop-decl.decl-index c.loop-decl-test.false c.loop-decl.invariant
