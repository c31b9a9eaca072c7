use Rattle.dh_ports.proofs.GroupTurns.{cleared_all, cleared_first, cleared_turn}
use Rattle.dh_ports.proofs.counting.clear.Goals as goal

pub loop-i-init : goal.loop-i-init
loop-i-init c = cleared_first c.args.counts.now

pub loop-i-preserved : goal.loop-i-preserved
loop-i-preserved c = cleared_turn c.args.counts.now c.loop-i.counts c.loop-i.i c.loop-i-test.true c.loop-i.invariant

pub returns : goal.returns
returns c = cleared_all c.args.counts.now c.loop-i.counts c.loop-i.i c.loop-i-test.false c.loop-i.invariant
