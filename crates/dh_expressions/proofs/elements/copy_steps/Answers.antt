use Rattle.std.proofs.Common.{◌++◌, ap, add-one}
use Rattle.dh_expressions.proofs.ListPlaces.{listed_end, listed_more}
use Rattle.dh_expressions.proofs.elements.copy_steps.Goals as goal

pub loop-step-init : goal.loop-step-init
loop-step-init c = ap (λ l. l ++ c.args.steps.now) c.new-all.ensures

pub loop-step-preserved : goal.loop-step-preserved
loop-step-preserved c = rw (add-one c.loop-step.step-index)
    (listed_more c.args.steps.now c.loop-step.step-index c.loop-step.all c.copy_step.new.steps c.args.steps.now c.step-item.result c.loop-step-test.true c.step-item.is c.in_ok-copy_step.ensures c.loop-step.invariant)

pub returns : goal.returns
returns c = listed_end c.args.steps.now c.loop-step.step-index c.loop-step.all c.args.steps.now c.loop-step-test.false c.loop-step.invariant
