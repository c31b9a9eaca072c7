use Rattle.dh_typed_blocks.proofs.BlocksSound.{blocks_sound}
use Rattle.dh_typed_blocks.proofs.ready_blocks_are_sound.Goals as goal

pub returns : goal.returns
returns c = blocks_sound
