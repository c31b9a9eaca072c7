use Rattle.dh_laid.proofs.BlocksUsed.{blocks_lead, blocks_probe, blocks_use, tests_lead, tests_probe, tests_use}
use Rattle.dh_laid.proofs.laws.whole_blocks_use.Goals as goal

pub returns-clause-blocks : goal.returns-clause-blocks
returns-clause-blocks c scene around cs old new m stands leads some along writes inside bare = blocks_use scene around cs old new m stands leads some along writes inside bare

pub returns-clause-blocks_lead : goal.returns-clause-blocks_lead
returns-clause-blocks_lead c scene around cs old new m stands leads some along writes inside bare = blocks_lead scene around cs old new m stands leads some along writes inside bare

pub returns-clause-blocks_probed : goal.returns-clause-blocks_probed
returns-clause-blocks_probed c scene around cs old new m stands some along = blocks_probe scene around cs old new m stands some along

pub returns-clause-tests : goal.returns-clause-tests
returns-clause-tests c scene around first t old new next tests m stands few inside bare = tests_use scene around first t old new next tests m stands few inside bare

pub returns-clause-tests_lead : goal.returns-clause-tests_lead
returns-clause-tests_lead c scene around first t old new next tests m stands few inside bare = tests_lead scene around first t old new next tests m stands few inside bare

pub returns-clause-tests_probed : goal.returns-clause-tests_probed
returns-clause-tests_probed c scene around first t old new next tests m stands few = tests_probe scene around first t old new next tests m stands few
