use Rattle.dh_laid.proofs.AccessesLaid.{commands_lay, each_lays, groups_lay, terms_lay_all, tests_lay}
use Rattle.dh_laid.proofs.laws.whole_commands_lay.Goals as goal

pub returns-clause-terms : goal.returns-clause-terms
returns-clause-terms c scene lane current t old new before after n next v s m = terms_lay_all scene lane current t old new before after n next v s m

pub returns-clause-commands : goal.returns-clause-commands
returns-clause-commands c scene a around old new first next s m = commands_lay scene a around old new first next s m

pub returns-clause-groups : goal.returns-clause-groups
returns-clause-groups c scene body around old new first next s m = groups_lay scene body around old new first next s m

pub returns-clause-tests : goal.returns-clause-tests
returns-clause-tests c scene around first t count old new next tests s m = tests_lay scene around first t count old new next tests s m

pub returns-clause-each : goal.returns-clause-each
returns-clause-each c scene around cs old new s m = each_lays scene around cs old new s m
