-- The blocks of a ready program stand along its trace.
use Rattle.std.proofs.Common.{◌≡◌, inl, List, [], ◌++◌, Some, refl}
use Rattle.std.specs.List.{AllByRecursion}
use Rattle.dh_tree.specs.PlainTrees.{Term}
use Rattle.dh_tree.specs.Seen.{program_seen}
use Rattle.dh_meaning.specs.Core.{Turning}
use Rattle.dh_meaning.specs.CoreOf.{action_form_of, test_of}
use Rattle.dh_meaning.specs.Effects.{Block}
use Rattle.dh_meaning.specs.Phases.{Located, phases_of, idle_phases_of}
use Rattle.dh_meets.specs.SourceEvents.{trace}
use Rattle.dh_sound.specs.BlocksOfPhases.{OfStraight, OfTest}
use Rattle.dh_sound.specs.SimpleForms.{FoldsInJoins}
use Rattle.dh_sound.specs.ViewTrails.{FollowsViews}
use Rattle.dh_sound.proofs.Folds.{makes_less, makes_more}
use Rattle.dh_sound.proofs.SamePhase.{straight_has_both, test_has_both}
use Rattle.dh_sound.proofs.Slices.{straight_either, test_either}
use Rattle.dh_expressions.specs.declared.scenes.Scene.{Scene}
use Rattle.dh_blocks.specs.BlockTraced.{IsTraced, SceneTellsShares, TellsWays}
use Rattle.dh_blocks.specs.TestMade.{IsTestTraced}

pub straight_traced : (scene : Scene) (loops : List Turning) (block : Block) (found : OfStraight (program_seen scene.program.now) loops block)
    → FollowsViews (program_seen scene.program.now) found.round [] (trace (program_seen scene.program.now)) found.done → AllByRecursion (λ (c : Located). FoldsInJoins c.command) found.done → SceneTellsShares scene → TellsWays scene
    → IsTraced scene found.done found.folds
straight_traced scene loops block found behind joins shares ways = record {
  quiet = found.quiet;
  round = found.round;
  follows = behind;
  joins = joins;
  one_phase = λ j k e h.
      makes_less j found.done found.folds found.quiet
      (straight_has_both (program_seen scene.program.now) (found.done ++ found.folds) j k
      (straight_either (phases_of (program_seen scene.program.now)) (idle_phases_of (program_seen scene.program.now)) (found.done ++ found.folds) (inl found.has)) (makes_more k found.done found.folds h) e);
  shares = shares;
  ways = ways;
}

pub test_traced : (scene : Scene) (loops : List Turning) (block : Block) (found : OfTest (program_seen scene.program.now) loops block) (t : Term)
    → test_of (action_form_of found.tested.command) ≡ Some t → SceneTellsShares scene → IsTestTraced scene found.tested.first t
test_traced scene loops block found t test_is shares = record {
  tested = found.tested;
  first_is = refl;
  test_is = test_is;
  follows = found.follows;
  one_phase = λ j k e h.
      test_has_both (program_seen scene.program.now) found.tested j k
      (test_either (phases_of (program_seen scene.program.now)) (idle_phases_of (program_seen scene.program.now)) found.tested (inl found.has)) h e;
  shares = shares;
}
