use Rattle.dh_plan.proofs.StepsAlone.{blocks_step_alone}
use Rattle.dh_plan.proofs.SteppingRuns.{runs_make_steps}
use Rattle.dh_plan.proofs.laws.runs_make_steps.Goals as goal

pub returns-clause-runs : goal.returns-clause-runs
returns-clause-runs c = runs_make_steps

pub returns-clause-alone : goal.returns-clause-alone
returns-clause-alone c = blocks_step_alone
