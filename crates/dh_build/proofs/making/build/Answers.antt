use Rattle.std.proofs.lemmas.Result.{IfOk-weaker}
use Rattle.dh_plan.specs.Passes.{uses_seen}
use Rattle.dh_plan.specs.SeenPlans.{plan_seen}
use Rattle.dh_build.specs.BuiltPlans.{timing_of}
use Rattle.dh_build.proofs.PlansBuilt.{can_make_as, plays_as, built_shifts}
use Rattle.dh_build.proofs.making.build.Goals as goal

pub build_thread-requires-clause-can : goal.build_thread-requires-clause-can
build_thread-requires-clause-can c =
    can_make_as (plan_seen c.args.plan.now) c.args.graph.now (timing_of c.args.clocks.now c.args.lengths.now) (uses_seen c.args.binding.now) c.requires c.as_slice.result.now c.as_slice.ensures.value
    c.index-as_slice-0.result c.as_slice-states.result.now c.as_slice-states.ensures.value

pub returns : goal.returns
returns c =
    IfOk-weaker c.build_thread.result _ _ (λ net built. record {
      plays = plays_as (plan_seen c.args.plan.now) c.args.graph.now (timing_of c.args.clocks.now c.args.lengths.now) (uses_seen c.args.binding.now) c.requires c.as_slice.result.now c.as_slice.ensures.value
          c.index-as_slice-0.result c.as_slice-states.result.now c.as_slice-states.ensures.value c.in_ok-sizes.sizes c.in_ok-sizes.ensures net built;
      shifts = built_shifts _ _ _ _ _ net built;
    }) c.build_thread.ensures
