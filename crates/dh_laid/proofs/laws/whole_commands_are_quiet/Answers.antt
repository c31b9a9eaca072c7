use Rattle.dh_laid.proofs.CommandsQuiet.{commands_are_quiet, groups_are_quiet, quiet_sets_none, terms_are_quiet}
use Rattle.dh_laid.proofs.laws.whole_commands_are_quiet.Goals as goal

pub returns-clause-terms : goal.returns-clause-terms
returns-clause-terms c scene lane current t old new before after n next v s m = terms_are_quiet scene lane current t old new before after n next v s m

pub returns-clause-commands : goal.returns-clause-commands
returns-clause-commands c scene a around old new first next s m = commands_are_quiet scene a around old new first next s m

pub returns-clause-groups : goal.returns-clause-groups
returns-clause-groups c scene body around old new first next s m = groups_are_quiet scene body around old new first next s m

pub returns-clause-none : goal.returns-clause-none
returns-clause-none c form q first ws = quiet_sets_none form q first ws
