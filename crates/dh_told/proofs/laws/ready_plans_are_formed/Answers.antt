use Rattle.dh_told.proofs.PlansFormed.{plans_formed}
use Rattle.dh_told.proofs.laws.ready_plans_are_formed.Goals as goal

pub returns : goal.returns
returns c scene count plan final h = plans_formed scene count plan final h
