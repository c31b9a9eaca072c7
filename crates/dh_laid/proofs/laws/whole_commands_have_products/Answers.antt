use Rattle.dh_laid.proofs.CommandsMultiply.{commands_have_products, groups_have_products}
use Rattle.dh_laid.proofs.laws.whole_commands_have_products.Goals as goal

pub returns-clause-commands : goal.returns-clause-commands
returns-clause-commands c scene a around old new first next s m = commands_have_products scene a around old new first next s m

pub returns-clause-groups : goal.returns-clause-groups
returns-clause-groups c scene body around old new first next s m = groups_have_products scene body around old new first next s m
