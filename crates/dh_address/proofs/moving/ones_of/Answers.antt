use Rattle.dh_address.proofs.WayTurns.{ones_turn}
use Rattle.dh_address.proofs.moving.ones_of.Goals as goal

pub loop-dim-preserved : goal.loop-dim-preserved
loop-dim-preserved c = ones_turn c.args.dims.now c.loop-dim._dim-index c.loop-dim.factors c.push.new.self _ c.loop-dim-test.true c.in_ok-push.ensures c.loop-dim.invariant
