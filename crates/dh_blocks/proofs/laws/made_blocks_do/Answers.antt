use Rattle.dh_blocks.proofs.TracedBlocks.{made_blocks_do, made_blocks_lay}
use Rattle.dh_blocks.proofs.laws.made_blocks_do.Goals as goal

pub returns-clause-does : goal.returns-clause-does
returns-clause-does c = made_blocks_do

pub returns-clause-lays : goal.returns-clause-lays
returns-clause-lays c = made_blocks_lay
