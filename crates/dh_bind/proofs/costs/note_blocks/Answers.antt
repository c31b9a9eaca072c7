use Rattle.std.proofs.Common.{arith, length}
use Rattle.dh_bind.specs.Costs.{costs_in}
use Rattle.dh_bind.proofs.Noting.{noted_block, fits_block}
use Rattle.dh_bind.proofs.costs.note_blocks.Goals as goal

pub note_operations-requires-clause-fits : goal.note_operations-requires-clause-fits
note_operations-requires-clause-fits c =
    fits_block (length c.args.memories.now) (length c.loop-block.memories) c.args.wide c.loop-block.invariant.rows c.args.blocks.now c.requires.fits c.loop-block.block-index c.block-item.result (omega arith) c.block-item.is
    c.as_slice.result.now c.as_slice.ensures

pub loop-block-preserved : goal.loop-block-preserved
loop-block-preserved c =
    noted_block c.args.wide c.args.blocks.now c.loop-block.block-index c.block-item.result c.as_slice.result.now (costs_in c.args.wide c.args.memories.now c.args.counts.now) (costs_in c.args.wide c.loop-block.memories c.loop-block.counts)
    (costs_in c.args.wide c.note_operations.new.memories c.note_operations.new.counts) (omega arith) c.block-item.is c.as_slice.ensures c.loop-block.invariant c.note_operations.ensures
