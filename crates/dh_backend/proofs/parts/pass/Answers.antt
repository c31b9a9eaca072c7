use Rattle.dh_plan.specs.Passes.{timing_seen}
use Rattle.dh_plan.specs.SeenPlans.{plan_seen}
use Rattle.dh_backend.proofs.PartsPlay.{are_passed}
use Rattle.dh_backend.proofs.parts.pass.Goals as goal

pub schedule-requires : goal.schedule-requires
schedule-requires c = λ block. (c.requires.sound.formed.blocks block).ordered

pub times_of-requires : goal.times_of-requires
times_of-requires c = c.in_ok-least.ensures

pub bind-requires-clause-plan : goal.bind-requires-clause-plan
bind-requires-clause-plan c = c.requires

pub bind-requires-clause-clocks : goal.bind-requires-clause-clocks
bind-requires-clause-clocks c = c.in_ok-least.ensures.legal.all_clocks

pub flow-requires : goal.flow-requires
flow-requires c = c.requires.sound.formed

pub returns : goal.returns
returns c =
    are_passed (plan_seen c.args.plan.now) (timing_seen c.in_ok-least.least) _ c.in_ok-least.ensures c.in_ok-times.ensures c.in_ok-binding.ensures c.in_ok-graph.ensures.graph c.in_ok-graph.ensures.thread
