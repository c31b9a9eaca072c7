use Rattle.dh_build.proofs.NoneAbove.{all_below}
use Rattle.dh_build.proofs.sizing.greatest.Goals as goal

pub returns-clause-all : goal.returns-clause-all
returns-clause-all c = all_below c.args.numbers.now c.loop-number.number-index c.loop-number.most c.loop-number-test.false c.loop-number.invariant
