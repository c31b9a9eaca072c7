-- One block on, the rows so far and those of the blocks to come are those of all.
use Rattle.std.proofs.Common.{arith}
use Rattle.dh_bind.proofs.Flat.{rows_step}
use Rattle.dh_bind.proofs.operations.rows_needed.Goals as goal

pub loop-block-preserved : goal.loop-block-preserved
loop-block-preserved c = record {
  number = rows_step c.args.blocks.now c.loop-block.block-index c.block-item.result c.loop-block.rows c.max-rows.result _ (omega arith) c.block-item.is c.loop-block.invariant.number (cc);
  fits = omega arith;
}
