use Rattle.dh_plan.proofs.SameStates.{plans_run_alike}
use Rattle.dh_plan.proofs.laws.plans_run_alike.Goals as goal

pub returns : goal.returns
returns c = plans_run_alike
