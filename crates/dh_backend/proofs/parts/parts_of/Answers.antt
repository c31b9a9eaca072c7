use Rattle.dh_plan.specs.SeenPlans.{plan_seen}
use Rattle.dh_backend.proofs.PartsPlay.{may_bind, are_parts}
use Rattle.dh_backend.proofs.parts.parts_of.Goals as goal

pub addresses-requires : goal.addresses-requires
addresses-requires c = c.requires.is_plan.sound

pub pass-requires : goal.pass-requires
pass-requires c = may_bind (plan_seen c.args.plan) (plan_seen c.in_ok-plan.plan) c.requires c.in_ok-plan.ensures

pub returns-in-Ok : goal.returns-in-Ok
returns-in-Ok c = are_parts (plan_seen c.args.plan) _ c.requires c.in_ok-plan.ensures c.in-Ok.ensures
