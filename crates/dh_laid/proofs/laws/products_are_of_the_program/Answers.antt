use Rattle.dh_laid.proofs.ProductsOfCore.{commands_multiply, groups_multiply, terms_multiply}
use Rattle.dh_laid.proofs.laws.products_are_of_the_program.Goals as goal

pub returns-clause-terms : goal.returns-clause-terms
returns-clause-terms c known n t = terms_multiply known n t

pub returns-clause-commands : goal.returns-clause-commands
returns-clause-commands c known n a rest is = commands_multiply known n a rest is

pub returns-clause-groups : goal.returns-clause-groups
returns-clause-groups c known n body rest is = groups_multiply known n body rest is
