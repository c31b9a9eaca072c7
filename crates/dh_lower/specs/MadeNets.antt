-- What is known of a plan, its graph, its schedule and its binding when a net is made of them.
use Rattle.dh_plan.specs.declared.schedules.Limits.{Limits}
use Rattle.dh_plan.specs.BoundPorts.{ArePorts}
use Rattle.dh_plan.specs.LegalSchedules.{IsLegal}
use Rattle.dh_plan.specs.SoundPlans.{IsSound, IsAddressed}
use Rattle.dh_plan.specs.Ways.{FlowsAs}
use Rattle.dh_lower.specs.NetOfPlan.{Making}

pub record IsMakeable (k : Making) (limits : Limits) : Type 0 where
  pub sound : IsSound k.plan
  pub addressed : IsAddressed k.plan
  pub flows : FlowsAs k.flow k.plan
  pub legal : IsLegal k.plan limits k.timing
  pub ports : ArePorts k.plan k.uses
