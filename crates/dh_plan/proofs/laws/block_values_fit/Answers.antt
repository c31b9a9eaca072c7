use Rattle.dh_plan.proofs.FittingValues.{block_values_fit, plan_values_fit}
use Rattle.dh_plan.proofs.laws.block_values_fit.Goals as goal

pub returns-clause-values : goal.returns-clause-values
returns-clause-values c = block_values_fit

pub returns-clause-plan : goal.returns-clause-plan
returns-clause-plan c = plan_values_fit
