use Rattle.dh_told.proofs.PlansMeasured.{made_plans_are_long}
use Rattle.dh_told.proofs.laws.made_plans_are_as_long_as_their_phases.Goals as goal

pub returns : goal.returns
returns c = made_plans_are_long
