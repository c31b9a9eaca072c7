use Rattle.dh_used.proofs.NodesReach.{made_plans_reach}
use Rattle.dh_used.proofs.laws.made_plans_reach_the_source.Goals as goal

pub returns : goal.returns
returns c scene final plan is once block i r h = made_plans_reach scene final plan is once block i r h
