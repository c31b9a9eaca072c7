use Rattle.dh_address.proofs.FewElements.{banks_turn}
use Rattle.dh_address.proofs.ranging.bank_total.Goals as goal

pub loop-dim-preserved : goal.loop-dim-preserved
loop-dim-preserved c = banks_turn c.args.dims.now c.loop-dim.dim-index c.loop-dim.count _ c.loop-dim-test.true c.loop-dim.invariant
