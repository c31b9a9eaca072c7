-- One block on, the width so far and that of the blocks to come are that of all.
use Rattle.std.proofs.Common.{arith}
use Rattle.dh_bind.proofs.Widths.{width_step}
use Rattle.dh_bind.proofs.operations.width_needed.Goals as goal

pub loop-block-preserved : goal.loop-block-preserved
loop-block-preserved c =
    width_step c.args.blocks.now c.loop-block.block-index c.block-item.result c.loop-block.wide c.max-wide.result _ (omega arith) c.block-item.is c.loop-block.invariant (cc)
