use Rattle.dh_charged.proofs.MeetsInRange.{commands_meet_in_range, plans_meet}
use Rattle.dh_charged.proofs.laws.plans_meet_as_programs.Goals as goal

pub returns-clause-commands : goal.returns-clause-commands
returns-clause-commands c unrolled first a = commands_meet_in_range unrolled first a

pub returns-clause-plans : goal.returns-clause-plans
returns-clause-plans c p t plan few body is = plans_meet p t plan few body is
