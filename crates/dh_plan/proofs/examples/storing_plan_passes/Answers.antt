use Rattle.dh_plan.proofs.StoringPasses.{storing_flows, storing_binding}
use Rattle.dh_plan.proofs.examples.storing_plan_passes.Goals as goal

pub returns-clause-flow : goal.returns-clause-flow
returns-clause-flow c = storing_flows

pub returns-clause-binding : goal.returns-clause-binding
returns-clause-binding c = storing_binding
