use Rattle.dh_laid.proofs.CommandsNumbered.{commands_number, groups_number, reaching_number}
use Rattle.dh_laid.proofs.laws.whole_commands_are_numbered.Goals as goal

pub returns-clause-commands : goal.returns-clause-commands
returns-clause-commands c scene a around old new first next m is some few = commands_number scene a around old new first next m is some few

pub returns-clause-groups : goal.returns-clause-groups
returns-clause-groups c scene body around old new first next m is some few = groups_number scene body around old new first next m is some few

pub returns-clause-reaching : goal.returns-clause-reaching
returns-clause-reaching c scene a around old new first next m is some few = reaching_number scene a around old new first next m is some few
