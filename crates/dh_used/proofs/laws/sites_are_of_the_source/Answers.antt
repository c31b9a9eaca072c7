use Rattle.dh_used.proofs.SitesOfSource.{blocks_are_sited, tests_are_sited}
use Rattle.dh_used.proofs.laws.sites_are_of_the_source.Goals as goal

pub returns-clause-blocks : goal.returns-clause-blocks
returns-clause-blocks c scene around cs old new m is stand = blocks_are_sited scene around cs old new m is stand

pub returns-clause-tests : goal.returns-clause-tests
returns-clause-tests c scene around tested t has stand = tests_are_sited scene around tested t has stand
