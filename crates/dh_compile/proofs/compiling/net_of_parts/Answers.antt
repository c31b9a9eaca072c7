use Rattle.std.proofs.lemmas.Result.{IfOk-weaker}
use Rattle.dh_plan.specs.SeenPlans.{plan_seen}
use Rattle.dh_compile.proofs.NetsJoined.{joined_built}
use Rattle.dh_compile.proofs.compiling.net_of_parts.Goals as goal

pub joined_net-requires : goal.joined_net-requires
joined_net-requires c = c.in-Ok.ensures.plays.valid

pub returns-in-Ok : goal.returns-in-Ok
returns-in-Ok c =
    IfOk-weaker c.joined_net.result _ _ (λ net joined. joined_built (plan_seen c.args.parts.plan) c.args.parts.passed.times.lengths c.in-Ok.net net c.in-Ok.ensures joined)
    c.joined_net.ensures
