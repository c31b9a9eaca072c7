use Rattle.dh_typed_blocks.proofs.SimplePrograms.{blocks_simple}
use Rattle.dh_typed_blocks.proofs.blocks_are_simple.Goals as goal

pub returns : goal.returns
returns c = blocks_simple
