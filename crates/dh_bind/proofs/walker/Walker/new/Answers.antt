use Rattle.dh_plan.specs.SeenPlans.{plan_seen}
use Rattle.dh_bind.specs.Costs.{costs_in}
use Rattle.dh_bind.proofs.Driven.{few_wide}
use Rattle.dh_bind.proofs.PortsBound.{new_stands, new_begun}
use Rattle.dh_bind.proofs.walker.Walker.new.Goals as goal

pub invariant_of-result : goal.invariant_of-result
invariant_of-result c =
    new_stands c.args.plan.now (few_wide (plan_seen c.args.plan.now) c.requires.sound.formed) (costs_in c.in_ok-wide.field-0.wide c.in_ok-wide.field-0.memories.items c.in_ok-wide.field-0.counts.items) c.in_ok-wide.ensures c.in_ok-binder.binder c.in_ok-binder.ensures.of c.in_ok-binder.ensures.none
    c.in_ok-ledgers.ledgers.items c.as_slice.result.now c.in_ok-ledgers.ensures c.as_slice.ensures c.new-2.result.items c.new-2.ensures.items

pub returns : goal.returns
returns c =
    new_begun c.args.plan.now (costs_in c.in_ok-wide.field-0.wide c.in_ok-wide.field-0.memories.items c.in_ok-wide.field-0.counts.items) c.in_ok-wide.ensures c.in_ok-binder.binder c.in_ok-binder.ensures.of
    c.in_ok-ledgers.ledgers.items c.as_slice.result.now c.in_ok-ledgers.ensures c.as_slice.ensures c.new-2.result.items
