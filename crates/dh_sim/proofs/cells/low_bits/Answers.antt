use Rattle.dh_sim.proofs.Words.{low_mask}
use Rattle.dh_sim.proofs.cells.low_bits.Goals as goal

pub returns : goal.returns
returns c = low_mask c.args.bits c.args.width c.requires.greatest
