use Rattle.dh_address.proofs.FewElements.{rows_turn}
use Rattle.dh_address.proofs.ranging.row_count.Goals as goal

pub loop-dim-preserved : goal.loop-dim-preserved
loop-dim-preserved c = rows_turn c.args.dims.now c.loop-dim.dim-index c.loop-dim.count c.quotient-count.result _ c.loop-dim-test.true c.quotient-count.ensures c.loop-dim.invariant
