use Rattle.dh_told.proofs.BlocksMeasured.{made_straights_are_long, made_tests_are_long}
use Rattle.dh_told.proofs.laws.made_blocks_are_as_long_as_their_phases.Goals as goal

pub returns-clause-straights : goal.returns-clause-straights
returns-clause-straights c = made_straights_are_long

pub returns-clause-tests : goal.returns-clause-tests
returns-clause-tests c = made_tests_are_long
