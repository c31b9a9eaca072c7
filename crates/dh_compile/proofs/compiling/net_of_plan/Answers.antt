use Rattle.std.proofs.lemmas.Result.{IfOk-weaker}
use Rattle.dh_plan.specs.SeenPlans.{plan_seen}
use Rattle.dh_compile.proofs.PlansCompiled.{net_of_program}
use Rattle.dh_compile.proofs.compiling.net_of_plan.Goals as goal

pub returns : goal.returns
returns c =
    λ p asked of.
    IfOk-weaker c.net_of_parts.result _ _ (λ net built. net_of_program p (plan_seen c.args.plan) c.in_ok-parts.parts net asked of c.in_ok-parts.ensures built) c.net_of_parts.ensures
