use Rattle.dh_plan.specs.SeenPlans.{plan_seen}
use Rattle.dh_bind.proofs.Driven.{width_fits}
use Rattle.dh_bind.proofs.binder.Binder.new.Goals as goal

pub places-requires-clause-wide : goal.places-requires-clause-wide
places-requires-clause-wide c =
    width_fits (plan_seen c.args.plan.now) c.requires c.as_slice-blocks.result.now c.as_slice-blocks.ensures c.width_needed-wide.result c.width_needed-wide.ensures
