-- The straight phases and tests of a ready program are sound where they stand.
use Rattle.std.proofs.Common.{◌≡◌, List, [], ◌++◌, Some, ap, sym, ◌∙◌, subst}
use Rattle.dh_tree.specs.PlainTrees.{Program}
use Rattle.dh_tree.specs.Ready.{IsReady}
use Rattle.dh_tree.specs.Seen.{program_seen}
use Rattle.dh_meaning.specs.Core.{Turning}
use Rattle.dh_meaning.specs.CoreOf.{Known, core_commands, core_of, core_test, action_form_of, known_of, test_of}
use Rattle.dh_meaning.specs.Effects.{Block, commands, tests}
use Rattle.dh_meaning.specs.Phases.{Located, phases_of}
use Rattle.dh_plan.specs.Correspondence.{Round, loops_round}
use Rattle.dh_sound.specs.AssignsInside.{AssignsInside}
use Rattle.dh_sound.specs.Blocks.{StandsIn}
use Rattle.dh_sound.specs.BlocksOfPhases.{OfStraight, OfTest}
use Rattle.dh_expressions.specs.declared.scenes.Scene.{Scene}
use Rattle.dh_expressions.specs.Evaluated.{known_in}
use Rattle.dh_blocks.specs.TestMade.{IsTestTraced}
use Rattle.dh_blocks.proofs.PhasesTraced.{straight_traced, test_traced}
use Rattle.dh_gathering.specs.PhasesInLoops.{StraightOf, TestOf}
use Rattle.dh_typed_blocks.specs.PlainPrograms.{AreFewMemories, AssignsPlain}
use Rattle.dh_typed_blocks.proofs.BlocksFit.{Simple, Joins, phases_fit, phases_inside, straight_fits, tested_fits}
use Rattle.dh_typed_blocks.proofs.BlocksHolding.{StraightHolds, TestHolds}
use Rattle.dh_typed_blocks.proofs.BlocksSound.{ready_assigns, straight_sound, test_sound}
use Rattle.dh_typed_blocks.proofs.IteratorsSorted.{ready_plain}
use Rattle.dh_typed_blocks.proofs.KnownHere.{known_here}
use Rattle.dh_typed_blocks.proofs.MemoriesFew.{ready_few}
use Rattle.dh_told.specs.PlacedSound.{PlacedStraightsAreSound, PlacedTestsAreSound}
use Rattle.dh_told.proofs.PhasesHeld.{straight_of_held, straight_run, straight_there, test_of_held, test_run, test_there}

-- What fits, with what is known of names: of the program, and so in the scene of it.
module _ (scene : Scene) (ready : IsReady (program_seen scene.program.now)) (few : AreFewMemories (known_of (program_seen scene.program.now))) (assigned : AssignsInside (known_of (program_seen scene.program.now)) 0 (program_seen scene.program.now).body)
    (plain : AssignsPlain (known_of (program_seen scene.program.now)) (program_seen scene.program.now).body) (rounds : List Round) where
  abbrev StraightFits : List Located → Known → Type 0
  StraightFits located known =
      (f : StraightHolds (program_seen scene.program.now) (Simple (program_seen scene.program.now) ready few assigned plain) (Joins (program_seen scene.program.now) ready few assigned plain) (loops_round rounds) (commands (core_commands known located)))
      × (located ≡ f.of.done ++ f.of.folds)

  abbrev TestedFits : Located → Known → Type 0
  TestedFits tested known =
      (f : TestHolds (program_seen scene.program.now) (Simple (program_seen scene.program.now) ready few assigned plain) (Joins (program_seen scene.program.now) ready few assigned plain) (loops_round rounds) (tests (core_test known tested)))
      × (f.of.tested ≡ tested)

-- the parts of a phase that is found once more
parts_same : (p : Program) (loops : List Turning) (block : Block) (found again : OfStraight p loops block) (located : List Located) → located ≡ found.done ++ found.folds → again ≡ found → located ≡ again.done ++ again.folds
parts_same p loops block found again located are same = subst (λ (o : OfStraight p loops block). located ≡ o.done ++ o.folds) (sym same) are

pub placed_straights_are_sound : PlacedStraightsAreSound
placed_straights_are_sound scene around plan rounds located ready place placed =
    let p : Program = program_seen scene.program.now in
    let loops : List Turning = loops_round rounds in
    let few = ready_few (program_seen scene.program.now) ready in
    let assigned = ready_assigns (program_seen scene.program.now) ready in
    let plain = ready_plain (program_seen scene.program.now) ready in
    let same = known_here scene place.tells.ways in
    let own : StraightOf (known_of (program_seen scene.program.now)) [] (phases_of (program_seen scene.program.now)) (loops_round rounds) located =
    subst (λ (k : Known). StraightOf k [] (phases_of (program_seen scene.program.now)) (loops_round rounds) located) (sym same) placed in
    let held = straight_of_held (known_of (program_seen scene.program.now)) (Simple (program_seen scene.program.now) ready few assigned plain) (Joins (program_seen scene.program.now) ready few assigned plain) (phases_of (program_seen scene.program.now)) [] (loops_round rounds) located
    (phases_inside (program_seen scene.program.now) ready few assigned plain) (phases_fit (program_seen scene.program.now) ready few assigned plain) own in
    let fits = straight_fits (program_seen scene.program.now) ready few assigned plain (loops_round rounds) located (straight_there (known_of (program_seen scene.program.now)) (phases_of (program_seen scene.program.now)) [] (loops_round rounds) located own) held.0 held.1 in
    let f : StraightFits scene ready few assigned plain rounds located (known_in scene) = subst (StraightFits scene ready few assigned plain rounds located) same fits in
    let stands : StandsIn [] (core_of (program_seen scene.program.now)).phases (loops_round rounds) (commands (core_commands (known_in scene) located)) =
    subst (λ (k : Known). StandsIn [] (core_of (program_seen scene.program.now)).phases (loops_round rounds) (commands (core_commands k located))) same
    (straight_run (known_of (program_seen scene.program.now)) (phases_of (program_seen scene.program.now)) [] (loops_round rounds) located own) in
    let s = straight_sound scene around plan rounds ready place (commands (core_commands (known_in scene) located)) stands f.0 in
    record {
      of = s.0.of;
      are = parts_same (program_seen scene.program.now) (loops_round rounds) (commands (core_commands (known_in scene) located)) f.0.of s.0.of located f.1 s.1;
      behind = s.0.behind;
      joins = s.0.joins;
      typed = s.0.typed;
      sound = s.0.sound;
      traced = λ tells. straight_traced scene (loops_round rounds) (commands (core_commands (known_in scene) located)) s.0.of s.0.views s.0.joins tells (sym same);
    }

pub placed_tests_are_sound : PlacedTestsAreSound
placed_tests_are_sound scene around plan rounds tested t ready place placed is =
    let few = ready_few (program_seen scene.program.now) ready in
    let assigned = ready_assigns (program_seen scene.program.now) ready in
    let plain = ready_plain (program_seen scene.program.now) ready in
    let same = known_here scene place.tells.ways in
    let here : TestOf (known_of (program_seen scene.program.now)) [] (phases_of (program_seen scene.program.now)) (loops_round rounds) tested =
    subst (λ (k : Known). TestOf k [] (phases_of (program_seen scene.program.now)) (loops_round rounds) tested) (sym same) placed in
    let held = test_of_held (known_of (program_seen scene.program.now)) (Simple (program_seen scene.program.now) ready few assigned plain) (Joins (program_seen scene.program.now) ready few assigned plain) (phases_of (program_seen scene.program.now)) [] (loops_round rounds) tested
    (phases_inside (program_seen scene.program.now) ready few assigned plain) (phases_fit (program_seen scene.program.now) ready few assigned plain) here in
    let fits = tested_fits (program_seen scene.program.now) ready few assigned plain (loops_round rounds) tested (test_there (known_of (program_seen scene.program.now)) (phases_of (program_seen scene.program.now)) [] (loops_round rounds) tested here) held.0 held.1 in
    let f : TestedFits scene ready few assigned plain rounds tested (known_in scene) = subst (TestedFits scene ready few assigned plain rounds tested) same fits in
    let stands : StandsIn [] (core_of (program_seen scene.program.now)).phases (loops_round rounds) (tests (core_test (known_in scene) tested)) =
    subst (λ (k : Known). StandsIn [] (core_of (program_seen scene.program.now)).phases (loops_round rounds) (tests (core_test k tested))) same
    (test_run (known_of (program_seen scene.program.now)) (phases_of (program_seen scene.program.now)) [] (loops_round rounds) tested here) in
    let s = test_sound scene around plan rounds ready place (tests (core_test (known_in scene) tested)) stands f.0 in
    let own : s.0.of.tested ≡ tested = ap (λ (o : OfTest (program_seen scene.program.now) (loops_round rounds) (tests (core_test (known_in scene) tested))). o.tested) s.1 ∙ f.1 in
    let same : test_of (action_form_of s.0.of.tested.command) ≡ Some t = ap (λ (c : Located). test_of (action_form_of c.command)) own ∙ is in
    record {
      of = s.0.of;
      is = own;
      typed = s.0.typed t same;
      sound = s.0.sound t same;
      traced = λ tells. subst (λ (c : Located). IsTestTraced scene c.first t) own (test_traced scene (loops_round rounds) (tests (core_test (known_in scene) tested)) s.0.of t same tells);
    }
