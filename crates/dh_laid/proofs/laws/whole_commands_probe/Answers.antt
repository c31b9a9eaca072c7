use Rattle.dh_laid.proofs.CommandsProbe.{commands_probe, groups_probe}
use Rattle.dh_laid.proofs.laws.whole_commands_probe.Goals as goal

pub returns-clause-commands : goal.returns-clause-commands
returns-clause-commands c scene a around old new first next s m is some few = commands_probe scene a around old new first next s m is some few

pub returns-clause-groups : goal.returns-clause-groups
returns-clause-groups c scene body around old new first next s m is some few = groups_probe scene body around old new first next s m is some few
