use Rattle.dh_told.proofs.BlocksPlaced.{placed_straights_are_sound, placed_tests_are_sound}
use Rattle.dh_told.proofs.laws.placed_blocks_are_sound.Goals as goal

pub returns-clause-straights : goal.returns-clause-straights
returns-clause-straights c = placed_straights_are_sound

pub returns-clause-tests : goal.returns-clause-tests
returns-clause-tests c = placed_tests_are_sound
