use Rattle.dh_swept.proofs.NumbersGiven.{numbering_turn}
use Rattle.dh_swept.proofs.numbering.number_marked.Goals as goal

pub loop-i-preserved : goal.loop-i-preserved
loop-i-preserved c =
    numbering_turn c.loop-i.i c.args.flags.now c.loop-i.at c.loop-i.to c.push_marked.new.at c.push.new.self c.len-number.result _ c.loop-i-test.true c.loop-i.invariant c.len-number.ensures c.in_ok-push.ensures
    c.in_ok-push_marked.ensures
