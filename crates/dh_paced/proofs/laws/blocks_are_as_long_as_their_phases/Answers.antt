use Rattle.dh_paced.proofs.BlocksPaced.{straights_are_long, tests_are_long}
use Rattle.dh_paced.proofs.laws.blocks_are_as_long_as_their_phases.Goals as goal

pub returns-clause-commands : goal.returns-clause-commands
returns-clause-commands c = straights_are_long

pub returns-clause-tests : goal.returns-clause-tests
returns-clause-tests c = tests_are_long
