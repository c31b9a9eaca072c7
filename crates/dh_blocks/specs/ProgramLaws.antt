-- What a program tells of its blocks, where the scene is of it.
use Rattle.std.specs.Prelude.{◌≡◌, List, [], Some}
use Rattle.std.specs.List.{AllByRecursion}
use Rattle.dh_tree.specs.PlainTrees.{Term}
use Rattle.dh_tree.specs.Seen.{program_seen}
use Rattle.dh_meaning.specs.Core.{Turning}
use Rattle.dh_meaning.specs.CoreOf.{action_form_of, test_of}
use Rattle.dh_meaning.specs.Effects.{Block}
use Rattle.dh_meaning.specs.Phases.{Located}
use Rattle.dh_meets.specs.SourceEvents.{trace}
use Rattle.dh_sound.specs.BlocksOfPhases.{OfStraight, OfTest}
use Rattle.dh_sound.specs.SimpleForms.{FoldsInJoins}
use Rattle.dh_sound.specs.ViewTrails.{FollowsViews}
use Rattle.dh_expressions.specs.declared.scenes.Scene.{Scene}
use Rattle.dh_blocks.specs.BlockTraced.{IsTraced, SceneTellsShares, TellsWays}
use Rattle.dh_blocks.specs.TestMade.{IsTestTraced}

-- a block of straight commands stands along the trace
abbrev pub StraightsAreTraced : Scene → List Turning → Block → Type 0
StraightsAreTraced scene loops block =
    (found : OfStraight (program_seen scene.program.now) loops block) → FollowsViews (program_seen scene.program.now) found.round [] (trace (program_seen scene.program.now)) found.done
    → AllByRecursion (λ (c : Located). FoldsInJoins c.command) found.done → SceneTellsShares scene → TellsWays scene → IsTraced scene found.done found.folds

-- and so does a test
abbrev pub TestsAreTraced : Scene → List Turning → Block → Type 0
TestsAreTraced scene loops block =
    (found : OfTest (program_seen scene.program.now) loops block) (t : Term) → test_of (action_form_of found.tested.command) ≡ Some t → SceneTellsShares scene → IsTestTraced scene found.tested.first t
