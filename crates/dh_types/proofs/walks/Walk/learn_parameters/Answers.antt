use Rattle.std.proofs.Common.{◌∙◌, ap}
use Rattle.dh_tree.specs.Kinds.{parameter_fact}
use Rattle.dh_tree.specs.Seen.{formal_seen}
use Rattle.dh_types.specs.Walks.{typing_state_of, learned}
use Rattle.dh_types.proofs.Known.{known_next, known_all}
use Rattle.dh_types.proofs.walks.Walk.learn_parameters.Goals as goal

pub loop-parameter-preserved : goal.loop-parameter-preserved
loop-parameter-preserved c =
    known_next formal_seen (λ f. parameter_fact f.kind f.shape) (typing_state_of c.loop-parameter.self) (typing_state_of c.learn.new.self) _ c.args.parameters.now c.loop-parameter.parameter-index c.parameter-item.result c.loop-parameter-test.true c.parameter-item.is
    (c.in_ok-learn.ensures ∙ ap (λ f. learned (typing_state_of c.loop-parameter.self) f) c.parameter_fact.ensures) c.loop-parameter.invariant

pub returns : goal.returns
returns c = known_all formal_seen (λ f. parameter_fact f.kind f.shape) (typing_state_of c.loop-parameter.self) _ c.args.parameters.now c.loop-parameter.parameter-index c.loop-parameter-test.false c.loop-parameter.invariant
