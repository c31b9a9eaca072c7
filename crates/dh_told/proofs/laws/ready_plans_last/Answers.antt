use Rattle.dh_told.proofs.PlansLast.{plans_last, plans_measured}
use Rattle.dh_told.proofs.laws.ready_plans_last.Goals as goal

pub returns-clause-blocks : goal.returns-clause-blocks
returns-clause-blocks c scene count plan final h = plans_measured scene count plan final h

pub returns-clause-plans : goal.returns-clause-plans
returns-clause-plans c scene count plan final h = plans_last scene count plan final h
