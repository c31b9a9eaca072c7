-- The nodes that were made of a program have blocks as long as its phases.
use Rattle.std.proofs.Common.{◌≡◌, ℕ, List, [], Option, ap, sym, ◌∙◌}
use Rattle.dh_tree.specs.PlainTrees.{Term}
use Rattle.dh_tree.specs.Seen.{program_seen}
use Rattle.dh_meaning.specs.Core.{CoreCommands, CoreTerm}
use Rattle.dh_meaning.specs.CoreOf.{core_test_of}
use Rattle.dh_meaning.specs.Effects.{commands, tests}
use Rattle.dh_meaning.specs.Levels.{block_length}
use Rattle.dh_meets.specs.Sharing.{shared}
use Rattle.dh_plan.specs.Correspondence.{Round}
use Rattle.dh_plan.specs.DoneProgram.{has_lengths}
use Rattle.dh_plan.specs.LegalSchedules.{block_clocks}
use Rattle.dh_plan.specs.PlainPlans.{PlainPlan}
use Rattle.dh_expressions.specs.declared.scenes.Scene.{Scene}
use Rattle.dh_expressions.specs.Evaluated.{known_in}
use Rattle.dh_blocks.specs.SlotsOfScene.{placing_in}
use Rattle.dh_gathering.specs.declared.blocks.Made.{Made}
use Rattle.dh_gathering.specs.LoopCounters.{AreCounting}
use Rattle.dh_gathering.specs.MadeBlocks.{IsStraightBlock, IsTestBlock}
use Rattle.dh_phased.proofs.NodesTied.{nodes_tied}
use Rattle.dh_told.specs.MeasuredPlans.{HasMeasuredBlocks, MadePlansAreLong}
use Rattle.dh_told.proofs.BlocksMeasured.{made_straights_are_long, made_tests_are_long}

module _ (scene : Scene) (plan : PlainPlan) (count : ℕ) (final : Made) (has : HasMeasuredBlocks scene plan count final (shared (program_seen scene.program.now))) where
  straight_long : (rounds : List Round) (cs : CoreCommands) (block : ℕ) → AreCounting scene (placing_in scene) rounds → IsStraightBlock scene final rounds cs block → block_clocks plan block ≡ block_length (shared (program_seen scene.program.now)) (commands cs)
  straight_long rounds cs block counting s =
      made_straights_are_long scene plan count final rounds s.located block (shared (program_seen scene.program.now)) s.made (has.straights rounds cs block s counting)
      ∙ ap (λ (c : CoreCommands). block_length (shared (program_seen scene.program.now)) (commands c)) (sym s.are)

  test_long : (rounds : List Round) (test : CoreTerm) (flag block : ℕ) → AreCounting scene (placing_in scene) rounds → IsTestBlock scene final rounds test flag block → block_clocks plan block ≡ block_length (shared (program_seen scene.program.now)) (tests test)
  test_long rounds test flag block counting s =
      made_tests_are_long scene plan count final rounds s.tested.first s.term flag block (shared (program_seen scene.program.now)) s.made (has.tests rounds test flag block s counting)
      ∙ ap (λ (t : CoreTerm). block_length (shared (program_seen scene.program.now)) (tests t)) (sym (s.is ∙ ap (λ (o : Option Term). core_test_of (known_in scene) s.tested.first o) s.term_is))

pub made_plans_are_long : MadePlansAreLong
made_plans_are_long scene plan count final qs ns has loops h =
    nodes_tied scene final (has_lengths (program_seen scene.program.now) plan) (straight_long scene plan count final has) (test_long scene plan count final has) (λ rounds loop counter all counts other is. tt) [] qs ns tt loops h
