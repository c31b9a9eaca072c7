-- That the blocks of a ready program are sound, as the laws on made blocks ask, where the scene and the plan are of it.
use Rattle.std.specs.Prelude.{◌≡◌, ◌⊎◌, ℕ, ◌≤◌, List, [], ◌++◌, length, map, Some}
use Rattle.std.specs.List.{AllByRecursion}
use Rattle.dh_tree.specs.PlainTrees.{Program, Term}
use Rattle.dh_tree.specs.Memories.{table_of}
use Rattle.dh_tree.specs.Ready.{IsReady}
use Rattle.dh_tree.specs.Seen.{program_seen}
use Rattle.dh_meaning.specs.Core.{Turning}
use Rattle.dh_meaning.specs.CoreOf.{core_of, action_form_of, test_of}
use Rattle.dh_meaning.specs.Effects.{Block}
use Rattle.dh_meaning.specs.Phases.{Located}
use Rattle.dh_meets.specs.SourceEvents.{trace}
use Rattle.dh_plan.specs.Correspondence.{Round, loops_round}
use Rattle.dh_plan.specs.PlainPlans.{PlainPlan}
use Rattle.dh_sound.specs.BehindViews.{ActionBehind}
use Rattle.dh_sound.specs.Blocks.{StandsIn}
use Rattle.dh_sound.specs.BlocksOfPhases.{OfStraight, OfTest}
use Rattle.dh_sound.specs.SimpleForms.{FoldsInJoins}
use Rattle.dh_sound.specs.ViewTrails.{FollowsViews}
use Rattle.dh_expressions.specs.declared.scenes.Around.{Around}
use Rattle.dh_expressions.specs.declared.scenes.Scene.{Scene}
use Rattle.dh_expressions.specs.Evaluated.{known_in}
use Rattle.dh_blocks.specs.BlockMade.{AreSoundHere, IsTop}
use Rattle.dh_blocks.specs.TestMade.{IsSoundTest}
use Rattle.dh_typed_blocks.specs.ScenesTold.{TellsScene, AreRoundsTold}
use Rattle.dh_typed_blocks.specs.TypedTerms.{ActionTyped, IsTyped}

-- the scene, the loops round a block and the plan are of the program
pub record IsPlaceTold (scene : Scene) (around : Around) (plan : PlainPlan) (rounds : List Round) : Type 0 where
  pub tells : TellsScene scene
  pub top : IsTop rounds around
  pub told : AreRoundsTold scene plan.registers rounds
  pub table : plan.table ≡ table_of (program_seen scene.program.now)

-- a command stands behind the views that it leads through
abbrev pub IsBehindViews : Program → Located → Type 0
IsBehindViews p c = (d : ℕ) × ((x : ℕ) × ((length p.entities ≤ x) × ActionBehind p d x c.command))

-- a block of straight commands is typed and sound: its reducers put variables together that are others in each copy
pub record StraightSound (scene : Scene) (around : Around) (plan : PlainPlan) (rounds : List Round) (block : Block) : Type 0 where
  pub of : OfStraight (program_seen scene.program.now) (loops_round rounds) block
  pub views : FollowsViews (program_seen scene.program.now) of.round [] (trace (program_seen scene.program.now)) of.done
  pub behind : AllByRecursion (IsBehindViews (program_seen scene.program.now)) (of.done ++ of.folds)
  pub joins : AllByRecursion (λ (c : Located). FoldsInJoins c.command) of.done
  pub typed : AllByRecursion (λ (c : Located). ActionTyped (known_in scene) (table_of (program_seen scene.program.now)) c.command) (of.done ++ of.folds)
  pub sound : AreSoundHere scene around plan rounds of.done of.folds

pub record TestSound (scene : Scene) (around : Around) (plan : PlainPlan) (rounds : List Round) (block : Block) : Type 0 where
  pub of : OfTest (program_seen scene.program.now) (loops_round rounds) block
  pub typed : (t : Term) → test_of (action_form_of of.tested.command) ≡ Some t → IsTyped (known_in scene) (table_of (program_seen scene.program.now)) t
  pub sound : (t : Term) → test_of (action_form_of of.tested.command) ≡ Some t → IsSoundTest scene around plan rounds t

abbrev pub ReadyBlocksAreSound : (scene : Scene) (around : Around) (plan : PlainPlan) (rounds : List Round) → Type 0
ReadyBlocksAreSound scene around plan rounds =
    IsReady (program_seen scene.program.now)
    → IsPlaceTold scene around plan rounds → (block : Block) → StandsIn [] (core_of (program_seen scene.program.now)).phases (loops_round rounds) block
    → StraightSound scene around plan rounds block ⊎ TestSound scene around plan rounds block
