use Rattle.dh_used.proofs.PlansAim.{made_plans_aim}
use Rattle.dh_used.proofs.laws.made_plans_aim_as_the_source.Goals as goal

pub returns : goal.returns
returns c scene final plan is once block i r h = made_plans_aim scene final plan is once block i r h
