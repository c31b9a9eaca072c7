use Rattle.dh_plan.specs.Passes.{uses_seen}
use Rattle.dh_plan.specs.SeenPlans.{plan_seen}
use Rattle.dh_build.proofs.JoinedParts.{net_joined}
use Rattle.dh_build.proofs.joining.build_thread.Goals as goal

pub returns-in-Ok : goal.returns-in-Ok
returns-in-Ok c =
    net_joined (plan_seen c.args.plan.now) (uses_seen c.args.binding.now) c.args.states.now c.args.first.now c.args.sizes.now c.in_ok-circuit.circuit c.push_joints.new.circuit c.in-Ok.joints c.join_net.result
    c.in_ok-circuit.ensures c.in-Ok.ensures c.join_net.ensures
