-- The blocks of a ready program's plan are as long as its phases.
use Rattle.std.specs.Prelude.{ℕ}
use Rattle.dh_tree.specs.Seen.{program_seen}
use Rattle.dh_meets.specs.Sharing.{shared}
use Rattle.dh_plan.specs.DoneProgram.{HasLengths}
use Rattle.dh_plan.specs.PlainPlans.{PlainPlan}
use Rattle.dh_expressions.specs.declared.scenes.Scene.{Scene}
use Rattle.dh_gathering.specs.declared.blocks.Made.{Made}
use Rattle.dh_told.specs.MeasuredPlans.{HasMeasuredBlocks}
use Rattle.dh_told.specs.FormedPlans.{IsWholePlan}
use Rattle.dh_told.specs.PlansTold.{IsOfReady}

abbrev pub ReadyPlansAreMeasured : Type 0
ReadyPlansAreMeasured =
    (scene : Scene) (count : ℕ) (plan : PlainPlan) (final : Made) → IsOfReady scene count plan final → HasMeasuredBlocks scene plan count final (shared (program_seen scene.program.now))

abbrev pub ReadyPlansHaveLengths : Type 0
ReadyPlansHaveLengths = (scene : Scene) (count : ℕ) (plan : PlainPlan) (final : Made) → IsWholePlan scene count plan final → HasLengths (program_seen scene.program.now) plan
