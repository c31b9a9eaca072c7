-- Of two accesses of a block that never meet one at most is done: how the block stands along the trace of its program.
use Rattle.std.specs.Prelude.{◌≡◌, ℕ, ◌++◌, [], Bool, List, Some}
use Rattle.dh_tree.specs.Numbers.{IsNumbered}
use Rattle.dh_tree.specs.PlainTrees.{Term}
use Rattle.dh_tree.specs.Seen.{program_seen}
use Rattle.dh_meaning.specs.CoreOf.{action_form_of, test_of}
use Rattle.dh_meaning.specs.Phases.{Located, phases_of}
use Rattle.dh_meaning.specs.Sites as stood
use Rattle.dh_meets.specs.Charges as charged
use Rattle.dh_meets.specs.SourceEvents.{trace}
use Rattle.dh_plan.specs.declared.operations.Operation.{Operation}
use Rattle.dh_plan.specs.DoneProgram.{MeetsAs}
use Rattle.dh_plan.specs.PlainPlans.{PlainPlan}
use Rattle.dh_sound.specs.PhaseFacts.{HasStraight, HasTest}
use Rattle.dh_sound.specs.SimpleForms.{AreFolds}
use Rattle.dh_sound.specs.Trails.{Follows}
use Rattle.dh_expressions.specs.declared.scenes.Around.{Around}
use Rattle.dh_expressions.specs.declared.scenes.Scene.{Scene}
use Rattle.dh_commands.specs.declared.buildings.Building.{Building}
use Rattle.dh_commands.specs.ShownVariables.{level_factors}
use Rattle.dh_blocks.specs.BlockMade.{step_of_block}
use Rattle.dh_laid.specs.BlockSites.{MadeEach, block_sites, test_sites}
use Rattle.dh_reached.specs.ReachedBlocks.{StraightStands}
use Rattle.dh_reached.specs.StepBanks.{NeverBoth}

-- Commands with accesses, in order along the trace of a program whose commands are numbered, and behind them reducers that
-- make none; they are those of one phase, inside the loops that stand round the block.
pub record StandsAlong (scene : Scene) (around : Around) (done folds : List Located) : Type 0 where
  pub quiet : AreFolds folds
  pub round : stood.Around
  pub follows : Follows round [] (trace (program_seen scene.program.now)) done
  pub has : HasStraight (phases_of (program_seen scene.program.now)) (done ++ folds)
  pub lowest : ℕ
  pub numbered : IsNumbered lowest (program_seen scene.program.now).body
  pub loops_are : level_factors around.levels.now ≡ charged.loop_factors round.loops

abbrev pub StraightNever : Type 0
StraightNever =
    (scene : Scene) (around : Around) (plan : PlainPlan) (count block : ℕ) (done folds : List Located) (old new : Building) (made : MadeEach scene around (done ++ folds) old new) (more : List Operation) (reads : ℕ → Bool)
    → StraightStands scene around plan count block (done ++ folds) old new made more reads → StandsAlong scene around done folds → MeetsAs (program_seen scene.program.now) plan
    → (registers : List ℕ) (memories : List (List ℕ)) → NeverBoth plan.meets (step_of_block plan block registers memories) (block_sites scene around (done ++ folds) old new made)

-- and no two of a test never meet
abbrev pub TestNever : Type 0
TestNever =
    (scene : Scene) (around : Around) (plan : PlainPlan) (block : ℕ) (tested : Located) (t : Term) → HasTest (phases_of (program_seen scene.program.now)) tested → test_of (action_form_of tested.command) ≡ Some t
    → MeetsAs (program_seen scene.program.now) plan
    → (registers : List ℕ) (memories : List (List ℕ)) → NeverBoth plan.meets (step_of_block plan block registers memories) (test_sites scene around tested.first t)
