use Rattle.std.proofs.Common.{◌∙◌, ap}
use Rattle.dh_tree.specs.Kinds.{function_fact}
use Rattle.dh_tree.specs.Seen.{defined_seen}
use Rattle.dh_types.specs.Walks.{typing_state_of, learned}
use Rattle.dh_types.proofs.Known.{known_next, known_all}
use Rattle.dh_types.proofs.walks.Walk.learn_functions.Goals as goal

pub loop-function-preserved : goal.loop-function-preserved
loop-function-preserved c =
    known_next defined_seen function_fact (typing_state_of c.loop-function.self) (typing_state_of c.learn.new.self) _ c.args.functions.now c.loop-function.function-index c.function-item.result c.loop-function-test.true c.function-item.is
    (c.in_ok-learn.ensures ∙ ap (λ f. learned (typing_state_of c.loop-function.self) f) c.in_ok-function_fact.ensures) c.loop-function.invariant

pub returns : goal.returns
returns c = known_all defined_seen function_fact (typing_state_of c.loop-function.self) _ c.args.functions.now c.loop-function.function-index c.loop-function-test.false c.loop-function.invariant
