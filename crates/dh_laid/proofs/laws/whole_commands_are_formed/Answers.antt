use Rattle.dh_laid.proofs.CommandsLaid.{all_commands_form, all_groups_form}
use Rattle.dh_laid.proofs.laws.whole_commands_are_formed.Goals as goal

pub returns-clause-commands : goal.returns-clause-commands
returns-clause-commands c scene a around old new first next m few = all_commands_form scene a around old new first next m few

pub returns-clause-groups : goal.returns-clause-groups
returns-clause-groups c scene body around old new first next m few = all_groups_form scene body around old new first next m few
