use Rattle.dh_plan.proofs.JointSteps.{phases_make_runs}
use Rattle.dh_plan.proofs.laws.phases_make_runs.Goals as goal

pub returns : goal.returns
returns c core plan slots = phases_make_runs core plan slots
