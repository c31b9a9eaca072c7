-- The plan of a ready program whole is formed.
use Rattle.std.specs.Prelude.{ℕ, []}
use Rattle.std.specs.List.{AllByRecursion}
use Rattle.dh_tree.specs.Seen.{program_seen}
use Rattle.dh_tree.specs.ViewShapes.{IsViewMap}
use Rattle.dh_meaning.specs.CoreOf.{core_of}
use Rattle.dh_plan.specs.PlainPlans.{PlainPlan}
use Rattle.dh_plan.specs.PlanPhases.{AreNodesOf}
use Rattle.dh_plan.specs.SoundPlans.{IsFormed}
use Rattle.dh_expressions.specs.declared.scenes.Scene.{Scene}
use Rattle.dh_charged.specs.MetAccesses.{PlanMeets}
use Rattle.dh_gathering.specs.declared.blocks.Made.{Made}
use Rattle.dh_gathering.specs.Gathered.{HasNodes}
use Rattle.dh_gathering.specs.MadeBlocks.{made_tie}
use Rattle.dh_used.specs.UsedPlans.{OneNodeEach}
use Rattle.dh_told.specs.PlansTold.{IsOfReady}

-- its nodes are those of the program's phases, each block that of one node, and its accesses meet as those of the program
pub record IsWholePlan (scene : Scene) (count : ℕ) (plan : PlainPlan) (final : Made) : Type 0 where
  pub of : IsOfReady scene count plan final
  pub maps : AllByRecursion IsViewMap plan.views
  pub nodes : AreNodesOf (made_tie scene final) [] (core_of (program_seen scene.program.now)).phases plan.body
  pub named : HasNodes final plan.body
  pub once : OneNodeEach plan
  pub meets : PlanMeets (program_seen scene.program.now) plan

abbrev pub ReadyPlansAreFormed : Type 0
ReadyPlansAreFormed =
    (scene : Scene) (count : ℕ) (plan : PlainPlan) (final : Made) → IsWholePlan scene count plan final → IsFormed plan
