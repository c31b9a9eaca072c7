-- Each block that was made of sound commands or of a sound test does its phase, and touches no more than that; so the nodes
-- do the phases.
use Rattle.std.proofs.Common.{◌≡◌, ℕ, List, [], ◌∷◌, ◌++◌, Some, None, ap, sym, ◌∙◌, subst}
use Rattle.std.specs.Prelude.{Option}
use Rattle.dh_tree.specs.PlainTrees.{Term}
use Rattle.dh_meaning.specs.Core.{CoreCommands, CoreTerm, Turning}
use Rattle.dh_meaning.specs.CoreOf.{core_commands, core_test_of}
use Rattle.dh_meaning.specs.Effects.{commands, tests}
use Rattle.dh_meaning.specs.Phases.{Located}
use Rattle.dh_plan.specs.Correspondence.{Round}
use Rattle.dh_plan.specs.PlainPlans.{PlainPlan}
use Rattle.dh_plan.specs.PlanPhases.{DoesBlock, IsIteratorOf, IsLoopRegister, SetsFlag, Touches, does_phases}
use Rattle.dh_expressions.specs.declared.scenes.Around.{Around}
use Rattle.dh_expressions.specs.declared.scenes.Scene.{Scene}
use Rattle.dh_expressions.specs.Evaluated.{known_in}
use Rattle.dh_laid.specs.BlockSites.{MadeEach}
use Rattle.dh_laid.specs.LaidQuiet.{BlockStandsIn}
use Rattle.dh_blocks.specs.BlockMade.{IsBlockMade, IsTop}
use Rattle.dh_blocks.specs.SlotsOfScene.{HoldsVariables, placing_in, slots_in}
use Rattle.dh_blocks.specs.TestMade.{DoesTest, IsTestMade}
use Rattle.dh_blocks.proofs.TestDone.{made_tests_do}
use Rattle.dh_blocks.proofs.TracedBlocks.{made_blocks_do}
use Rattle.dh_charged.specs.TouchedBlocks.{HaveCounters, StandsInPlan}
use Rattle.dh_charged.proofs.BlocksTouch.{straights_touch, tests_touch}
use Rattle.dh_gathering.specs.declared.blocks.Made.{Made}
use Rattle.dh_gathering.specs.LoopCounters.{AreCounting, IsCounting}
use Rattle.dh_gathering.specs.MadeBlocks.{IsStraightBlock, IsTestBlock, counter_register}
use Rattle.dh_gathering.proofs.CountersApart.{loop_register}
use Rattle.dh_phased.specs.DonePhases.{HasMade, HasSoundBlocks, PhasesAreDone}
use Rattle.dh_phased.proofs.BlocksMade.{straight_is_made, test_is_made}
use Rattle.dh_phased.proofs.NodesTied.{nodes_tied}
use Rattle.dh_phased.proofs.RoundsTop.{rounds_are_top}
use Rattle.dh_phased.proofs.SlotsTold.{slots_told}

have_counters : (scene : Scene) (rounds : List Round) → AreCounting scene (placing_in scene) rounds → HaveCounters scene rounds
have_counters scene [] h = tt
have_counters scene (r ∷ rounds) h = ((h.0.0.counter, h.0.0.counted), have_counters scene rounds h.1)

module _ (scene : Scene) (plan : PlainPlan) (count : ℕ) (final : Made) (made : HasMade plan count final) (holds : HoldsVariables scene plan count) (sound : HasSoundBlocks scene plan final) where
  -- what stands round a block
  stands_here : (rounds : List Round) (around : Around) → IsTop rounds around → BlockStandsIn scene around → AreCounting scene (placing_in scene) rounds → StandsInPlan scene around plan rounds count
  stands_here rounds around top stands counting = record { holds = holds; top = top; few = stands.few; counters = have_counters scene rounds counting }

  straight_does : (rounds : List Round) (cs : CoreCommands) (block : ℕ) → AreCounting scene (placing_in scene) rounds → IsStraightBlock scene final rounds cs block
      → DoesBlock plan (slots_in scene) rounds (commands cs) block × Touches plan (slots_in scene) rounds (commands cs) None block
  straight_does rounds cs block counting s =
      let k = sound.straights rounds cs block s counting in
      let top = rounds_are_top scene rounds s.made.around s.made.round s.made.stands_in in
      let is : IsBlockMade scene s.made.around plan count block (k.done ++ k.folds) s.made.before s.made.between =
      subst (λ (ls : List Located). IsBlockMade scene s.made.around plan count block ls s.made.before s.made.between) k.are (straight_is_made scene plan count final made rounds s.located block s.made k.ordered) in
      let each : MadeEach scene s.made.around (k.done ++ k.folds) s.made.before s.made.between = subst (λ (ls : List Located). MadeEach scene s.made.around ls s.made.before s.made.between) k.are s.made.made in
      subst (λ (c : CoreCommands). DoesBlock plan (slots_in scene) rounds (commands c) block × Touches plan (slots_in scene) rounds (commands c) None block)
      (sym (s.are ∙ ap (λ (ls : List Located). core_commands (known_in scene) ls) k.are)) (
        made_blocks_do scene s.made.around plan count block k.done k.folds rounds s.made.before s.made.between is holds top k.sound k.traced,
        straights_touch scene s.made.around plan rounds count block k.done k.folds s.made.before s.made.between (stands_here rounds s.made.around top s.made.stands_in counting) k.sound is.put each,
      )

  test_does : (rounds : List Round) (test : CoreTerm) (flag block : ℕ) → AreCounting scene (placing_in scene) rounds → IsTestBlock scene final rounds test flag block
      → DoesBlock plan (slots_in scene) rounds (tests test) block × (SetsFlag plan (slots_in scene) rounds test flag block × Touches plan (slots_in scene) rounds (tests test) (Some flag) block)
  test_does rounds test flag block counting s =
      let k = sound.tests rounds test flag block s counting in
      let top = rounds_are_top scene rounds s.made.around s.made.round s.made.stands_in in
      let is : IsTestMade scene s.made.around plan count block flag s.tested.first s.term s.made.tests s.made.before s.made.between = test_is_made scene plan count final made rounds s.tested.first s.term flag block s.made k.ordered in
      let does : DoesTest scene plan rounds block flag s.tested.first s.term s.made.between =
      made_tests_do scene s.made.around plan count block flag s.tested.first s.term s.made.tests rounds s.made.before s.made.between is holds top k.sound k.traced in
      let touches = tests_touch scene s.made.around plan rounds count block flag s.tested.first s.made.next s.term s.made.tests s.made.before s.made.between (stands_here rounds s.made.around top s.made.stands_in counting) k.sound is.put s.made.made in
      subst (λ (t : CoreTerm). DoesBlock plan (slots_in scene) rounds (tests t) block × (SetsFlag plan (slots_in scene) rounds t flag block × Touches plan (slots_in scene) rounds (tests t) (Some flag) block))
      (sym (s.is ∙ ap (λ (o : Option Term). core_test_of (known_in scene) s.tested.first o) s.term_is)) (does.does, (does.sets, touches))

  -- the register of a loop counts it
  loop_does : (rounds : List Round) (loop : Turning) (counter : ℕ) → AreCounting scene (placing_in scene) rounds → IsCounting scene (placing_in scene) loop → (IsIteratorOf rounds loop.iterator → ⊥) → counter ≡ counter_register scene loop
      → IsLoopRegister (slots_in scene) rounds loop counter
  loop_does rounds loop counter all counts other is =
      subst (λ (n : ℕ). IsLoopRegister (slots_in scene) rounds loop n) (sym is) (loop_register scene (placing_in scene) (slots_in scene) count (slots_told scene) holds.placing rounds loop all counts other)

pub phases_are_done : PhasesAreDone
phases_are_done scene plan count final qs ns made holds sound loops h =
    nodes_tied scene final (does_phases plan (slots_in scene)) (straight_does scene plan count final made holds sound) (test_does scene plan count final made holds sound) (loop_does scene plan count final made holds sound) [] qs ns tt loops h
