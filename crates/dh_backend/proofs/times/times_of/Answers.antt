use Rattle.std.proofs.Common.{ap, ◌∙◌}
use Rattle.dh_plan.specs.Passes.{timing_seen}
use Rattle.dh_plan.specs.SeenPlans.{plan_seen}
use Rattle.dh_backend.specs.SuitedPlans.{low_words}
use Rattle.dh_backend.proofs.SmallTimes.{times_told}
use Rattle.dh_backend.proofs.times.times_of.Goals as goal

pub returns : goal.returns
returns c =
    times_told (plan_seen c.args.plan.now) (timing_seen c.args.schedule.now) _ c.requires (c.in_ok-clocks.ensures.low ∙ ap low_words c.as_slice.ensures)
    (c.in_ok-lengths.ensures.low ∙ ap low_words c.as_slice-2.ensures) c.in_ok-clocks.ensures.few
