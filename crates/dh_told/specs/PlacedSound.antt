-- The straight phases and tests of a ready program where they stand: the commands of a phase are sound and typed in the
-- loops round it, those with accesses first, and behind them reducers that join copies.
use Rattle.std.specs.Prelude.{◌≡◌, List, [], ◌++◌, Some}
use Rattle.std.specs.List.{AllByRecursion}
use Rattle.dh_tree.specs.Memories.{table_of}
use Rattle.dh_tree.specs.PlainTrees.{Term}
use Rattle.dh_tree.specs.Ready.{IsReady}
use Rattle.dh_tree.specs.Seen.{program_seen}
use Rattle.dh_meaning.specs.CoreOf.{core_commands, core_test, action_form_of, test_of}
use Rattle.dh_meaning.specs.Effects.{commands, tests}
use Rattle.dh_meaning.specs.Phases.{Located, phases_of}
use Rattle.dh_plan.specs.Correspondence.{Round, loops_round}
use Rattle.dh_plan.specs.PlainPlans.{PlainPlan}
use Rattle.dh_sound.specs.BlocksOfPhases.{OfStraight, OfTest}
use Rattle.dh_sound.specs.SimpleForms.{FoldsInJoins}
use Rattle.dh_expressions.specs.declared.scenes.Around.{Around}
use Rattle.dh_expressions.specs.declared.scenes.Scene.{Scene}
use Rattle.dh_expressions.specs.Evaluated.{known_in}
use Rattle.dh_blocks.specs.BlockMade.{AreSoundHere}
use Rattle.dh_blocks.specs.BlockTraced.{IsTraced, SceneTellsShares}
use Rattle.dh_blocks.specs.TestMade.{IsSoundTest, IsTestTraced}
use Rattle.dh_typed_blocks.specs.SoundBlocks.{IsBehindViews, IsPlaceTold}
use Rattle.dh_typed_blocks.specs.TypedTerms.{ActionTyped, IsTyped}
use Rattle.dh_gathering.specs.PhasesInLoops.{StraightOf, TestOf}

-- straight commands of a phase inside these loops
pub record SoundStraight (scene : Scene) (around : Around) (plan : PlainPlan) (rounds : List Round) (located : List Located) : Type 0 where
  pub of : OfStraight (program_seen scene.program.now) (loops_round rounds) (commands (core_commands (known_in scene) located))
  pub are : located ≡ of.done ++ of.folds
  pub behind : AllByRecursion (IsBehindViews (program_seen scene.program.now)) (of.done ++ of.folds)
  pub joins : AllByRecursion (λ (c : Located). FoldsInJoins c.command) of.done
  pub typed : AllByRecursion (λ (c : Located). ActionTyped (known_in scene) (table_of (program_seen scene.program.now)) c.command) (of.done ++ of.folds)
  pub sound : AreSoundHere scene around plan rounds of.done of.folds
  -- where the scene tells which read shares which
  pub traced : SceneTellsShares scene → IsTraced scene of.done of.folds

-- the test of a command inside these loops
pub record SoundTest (scene : Scene) (around : Around) (plan : PlainPlan) (rounds : List Round) (tested : Located) (t : Term) : Type 0 where
  pub of : OfTest (program_seen scene.program.now) (loops_round rounds) (tests (core_test (known_in scene) tested))
  pub is : of.tested ≡ tested
  pub typed : IsTyped (known_in scene) (table_of (program_seen scene.program.now)) t
  pub sound : IsSoundTest scene around plan rounds t
  pub traced : SceneTellsShares scene → IsTestTraced scene tested.first t

-- so of each phase of a ready program
abbrev pub PlacedStraightsAreSound : Type 0
PlacedStraightsAreSound =
    (scene : Scene) (around : Around) (plan : PlainPlan) (rounds : List Round) (located : List Located) → IsReady (program_seen scene.program.now) → IsPlaceTold scene around plan rounds
    → StraightOf (known_in scene) [] (phases_of (program_seen scene.program.now)) (loops_round rounds) located → SoundStraight scene around plan rounds located

abbrev pub PlacedTestsAreSound : Type 0
PlacedTestsAreSound =
    (scene : Scene) (around : Around) (plan : PlainPlan) (rounds : List Round) (tested : Located) (t : Term) → IsReady (program_seen scene.program.now) → IsPlaceTold scene around plan rounds
    → TestOf (known_in scene) [] (phases_of (program_seen scene.program.now)) (loops_round rounds) tested → test_of (action_form_of tested.command) ≡ Some t → SoundTest scene around plan rounds tested t
