use Rattle.dh_told.proofs.BlocksFormed.{made_straights_are_formed, made_tests_are_formed}
use Rattle.dh_told.proofs.laws.made_blocks_are_formed.Goals as goal

pub returns-clause-straights : goal.returns-clause-straights
returns-clause-straights c scene plan count final rounds ls block m cut has stands fits = made_straights_are_formed scene plan count final rounds ls block m cut has stands fits

pub returns-clause-tests : goal.returns-clause-tests
returns-clause-tests c scene plan count final rounds touched n t flag block m cut has stands sound typed bool = made_tests_are_formed scene plan count final rounds touched n t flag block m cut has stands sound typed bool
