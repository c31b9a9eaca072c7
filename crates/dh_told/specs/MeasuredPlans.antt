-- A plan that was made of a program has blocks as long as their phases.
use Rattle.std.specs.Prelude.{ℕ, List, [], Option}
use Rattle.dh_tree.specs.Seen.{program_seen}
use Rattle.dh_meaning.specs.Core.{CoreCommands, CorePhases, CoreTerm}
use Rattle.dh_meets.specs.Sharing.{shared}
use Rattle.dh_plan.specs.Correspondence.{Round}
use Rattle.dh_plan.specs.DoneProgram.{has_lengths}
use Rattle.dh_plan.specs.PlainPlans.{Nodes, PlainPlan}
use Rattle.dh_plan.specs.PlanPhases.{AreNodesOf}
use Rattle.dh_expressions.specs.declared.scenes.Scene.{Scene}
use Rattle.dh_blocks.specs.SlotsOfScene.{placing_in}
use Rattle.dh_gathering.specs.declared.blocks.Made.{Made}
use Rattle.dh_gathering.specs.LoopCounters.{AreCounting, LoopsCount}
use Rattle.dh_gathering.specs.MadeBlocks.{IsStraightBlock, IsTestBlock, made_tie}
use Rattle.dh_told.specs.MeasuredBlocks.{StandsStraight, StandsTest}

-- each block stands so, in loops that count
pub record HasMeasuredBlocks (scene : Scene) (plan : PlainPlan) (count : ℕ) (final : Made) (shared_as : ℕ → Option ℕ) : Type 0 where
  pub straights : (rounds : List Round) (cs : CoreCommands) (block : ℕ) (s : IsStraightBlock scene final rounds cs block) → AreCounting scene (placing_in scene) rounds
      → StandsStraight scene plan count final rounds s.located block shared_as s.made
  pub tests : (rounds : List Round) (test : CoreTerm) (flag block : ℕ) (s : IsTestBlock scene final rounds test flag block) → AreCounting scene (placing_in scene) rounds
      → StandsTest scene plan count final rounds s.tested.first s.term flag block shared_as s.made

abbrev pub MadePlansAreLong : Type 0
MadePlansAreLong =
    (scene : Scene) (plan : PlainPlan) (count : ℕ) (final : Made) (qs : CorePhases) (ns : Nodes) → HasMeasuredBlocks scene plan count final (shared (program_seen scene.program.now)) → LoopsCount scene (placing_in scene) [] qs
    → AreNodesOf (made_tie scene final) [] qs ns → AreNodesOf (has_lengths (program_seen scene.program.now) plan) [] qs ns
