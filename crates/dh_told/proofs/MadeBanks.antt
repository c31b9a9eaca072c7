-- A plan that was made of a ready program is put down in its scene, block by block; so its steps keep the banks.
use Rattle.std.proofs.Common.{◌≡◌, ℕ, List, Some, sym, subst, arith}
use Rattle.std.specs.List.{AllByRecursion}
use Rattle.std.specs.Prelude.{Bool, true, false, [], ◌∷◌, ◌++◌, slice_index, length}
use Rattle.dh_tree.specs.PlainTrees.{Action, Term, action, assigns, blocks, calls, counts, decides, lets, lets_memory, reduces, repeats, stores, views}
use Rattle.dh_tree.specs.Seen.{program_seen}
use Rattle.dh_meaning.specs.Core.{CoreCommands, CoreTerm}
use Rattle.dh_meaning.specs.CoreOf.{core_commands, core_of, core_test, action_form_of, test_of}
use Rattle.dh_meaning.specs.Effects.{commands, tests}
use Rattle.dh_meaning.specs.OnePhase.{any_makes, test_makes}
use Rattle.dh_meaning.specs.Phases.{Located, phases_of}
use Rattle.dh_meaning.specs.Sites as source
use Rattle.dh_meaning.specs.Sites.{in_arm}
use Rattle.dh_meets.specs.SourceEvents.{Site, events, other_events, site_of, source_term_events, trace}
use Rattle.dh_plan.specs.Correspondence.{Round, loops_round}
use Rattle.dh_plan.specs.PlainPlans.{PlainPlan}
use Rattle.dh_sound.specs.PhaseFacts.{StandsAmong}
use Rattle.dh_sound.specs.Trails.{EachAccess}
use Rattle.dh_sound.proofs.AccessBanks.{loops_have_copies}
use Rattle.dh_expressions.specs.declared.scenes.Scene.{Scene}
use Rattle.dh_expressions.specs.Evaluated.{known_in}
use Rattle.dh_expressions.specs.Shown.{is_read_term}
use Rattle.dh_expressions.proofs.ListPlaces.{some_same}
use Rattle.dh_commands.specs.ShownVariables.{IsSeen}
use Rattle.dh_blocks.specs.BlockMade.{AreSoundBy, sets_made, step_of_block}
use Rattle.dh_blocks.specs.NamedVariables.{IsNamedHere}
use Rattle.dh_blocks.specs.SlotsOfScene.{placing_in}
use Rattle.dh_blocks.specs.TestMade.{flag_made}
use Rattle.dh_laid.specs.BlockSites.{MadeEach}
use Rattle.dh_gathering.specs.declared.blocks.Made.{Made}
use Rattle.dh_gathering.specs.LoopCounters.{AreCounting}
use Rattle.dh_gathering.specs.MadeBlocks.{IsStraightBlock, IsTestBlock}
use Rattle.dh_phased.proofs.LoopsCounted.{loops_are_own}
use Rattle.dh_phased.proofs.NodesTied.{nodes_tied}
use Rattle.dh_typed_blocks.specs.SoundBlocks.{IsBehindViews, IsPlaceTold}
use Rattle.dh_typed_blocks.proofs.KnownHere.{known_here}
use Rattle.dh_used.specs.SourceSites.{AllStand}
use Rattle.dh_told.proofs.CoreHere.{run_here}
use Rattle.dh_told.proofs.PhasesHeld.{straight_run, test_run}
use Rattle.dh_told.specs.PlansTold.{IsOfReady}
use Rattle.dh_told.proofs.BlocksTold.{both_all, first_all, holds, place, straight_all, straight_sound, table, test_sound, test_stand, then_all}
use Rattle.dh_told.proofs.VariablesKept.{holds_own}
use Rattle.dh_reached.specs.IndicesKept.{CommandsKeep, CommandKeeps, TermKeeps}
use Rattle.dh_reached.specs.ReachedBlocks.{StraightStands}
use Rattle.dh_reached.specs.ReachedPlans.{ReachedBlock, ReachedTest, reached_tie}
use Rattle.dh_reached.specs.StepsOfNodes.{InTurns}
use Rattle.dh_reached.proofs.OppositeArms.{each_front}
use Rattle.dh_reached.proofs.ReachedPlans.{reached_keep_banks}
use Rattle.dh_told.specs.MadeBanks.{MadePlansKeepBanks}
use Rattle.dh_told.specs.ReadsOfBlocks.{reads_in}
use Rattle.dh_told.proofs.BlocksStand.{straight_along, straight_stands}
use Rattle.dh_told.proofs.CopiesOfPhases.{straight_stands_few}
use Rattle.dh_told.proofs.IndicesTold.{AccessOk, command_keeps, command_ok, term_keeps}
use Rattle.dh_told.proofs.NamesTurn.{names_turn}
use Rattle.dh_told.proofs.SpreadPaths.{sets_unused, stands_spread}
use Rattle.dh_told.proofs.TestsStand.{test_has, test_stands_so}
use Rattle.dh_told.proofs.WaysKept.{all_free, none_free, seen_so}

-- the events of a test are among those of its command
record TestOk (scene : Scene) (t : Term) : Type 0 where
  site : Site
  ok : EachAccess (AccessOk scene) (source_term_events site t)

test_ok : (scene : Scene) (a : Action) (r : source.Around) (t : Term) → test_of (action_form_of a) ≡ Some t → EachAccess (AccessOk scene) (events r a) → TestOk scene t
test_ok scene (action id place (decides test chosen other)) r t is ok =
    subst (λ (q : Term). TestOk scene q) (some_same test t is)
    (record { site = site_of r id; ok = each_front (AccessOk scene) (source_term_events (site_of r id) test) (events (in_arm r id true) chosen ++ other_events (in_arm r id false) other) ok })
test_ok scene (action id place (repeats test body)) r t is ok =
    subst (λ (q : Term). TestOk scene q) (some_same test t is) (record { site = site_of r id; ok = each_front (AccessOk scene) (source_term_events (site_of r id) test) (events r body) ok })
test_ok scene (action id place (lets name declared value)) r t is ok = absurd (cc)
test_ok scene (action id place (lets_memory name shape shape_places value)) r t is ok = absurd (cc)
test_ok scene (action id place (views name parent form)) r t is ok = absurd (cc)
test_ok scene (action id place (assigns target value)) r t is ok = absurd (cc)
test_ok scene (action id place (stores target value)) r t is ok = absurd (cc)
test_ok scene (action id place (reduces target o value)) r t is ok = absurd (cc)
test_ok scene (action id place (calls function arguments)) r t is ok = absurd (cc)
test_ok scene (action id place (blocks body)) r t is ok = absurd (cc)
test_ok scene (action id place (counts iterator declared low high factor body combine combine_place)) r t is ok = absurd (cc)

module _ (scene : Scene) (count : ℕ) (plan : PlainPlan) (final : Made) (h : IsOfReady scene count plan final) where
  -- Straight commands.

  module _ (rounds : List Round) (cs : CoreCommands) (block : ℕ) (s : IsStraightBlock scene final rounds cs block) (counting : AreCounting scene (placing_in scene) rounds) where
    told_here : IsPlaceTold scene s.made.around plan rounds
    told_here =
        place scene count plan final h rounds s.made.around s.made.round s.made.stands_in counting (commands (core_commands (known_in scene) s.located))
        (run_here scene h.ways (loops_round rounds) (commands (core_commands (known_in scene) s.located))
        (straight_run (known_in scene) (phases_of (program_seen scene.program.now)) [] (loops_round rounds) s.located s.placed))

    module _ (registers : List ℕ) (memories : List (List ℕ)) (turns : InTurns registers rounds) where
      each_keeps : (touched : ℕ → Bool) (ls : List Located) → AreSoundBy touched scene s.made.around plan rounds ls → AllStand scene ls → AllByRecursion (IsBehindViews (program_seen scene.program.now)) ls → CommandsKeep (step_of_block plan block registers memories) scene s.made.around.levels.now ls
      each_keeps touched [] sound stands behind = tt
      each_keeps touched (c ∷ ls) sound stands behind = (
        command_keeps (step_of_block plan block registers memories) scene s.made.around.levels.now plan.table (λ r k. IsNamedHere scene s.made.around.levels.now plan.registers rounds touched r k)
            (names_turn scene plan block registers memories rounds s.made.around.levels.now s.made.round.paths told_here.tells told_here.told s.made.round.levels.within (loops_have_copies (program_seen scene.program.now) h.ready.indices) turns touched)
            (seen_so scene s.made.around.levels.now plan.registers rounds touched) h.table h.ready (table scene count plan final h) (sym (known_here scene h.ways)) h.views
            (IsSeen scene s.made.around.levels.now) (λ e seen. seen) c.command c.around behind.0.0 behind.0.1.0 behind.0.1.1.1 sound.0 (command_ok scene h.ready (table scene count plan final h) (sym (known_here scene h.ways)) c stands.0),
        each_keeps touched ls sound.1 stands.1 behind.1,
      )

    reached_block : ReachedBlock scene plan count rounds block
    reached_block =
        let k = straight_sound scene count plan final h rounds cs block s counting in
        let pair : (m : MadeEach scene s.made.around (k.of.done ++ k.of.folds) s.made.before s.made.between)
        × StraightStands scene s.made.around plan count block (k.of.done ++ k.of.folds) s.made.before s.made.between m (sets_made s.made.between.values.log.items s.made.between.values.current.items) (reads_in scene (λ n. any_makes n s.located)) =
        subst (λ (ls : List Located). (m : MadeEach scene s.made.around ls s.made.before s.made.between)
        × StraightStands scene s.made.around plan count block ls s.made.before s.made.between m (sets_made s.made.between.values.log.items s.made.between.values.current.items) (reads_in scene (λ n. any_makes n s.located))) k.are (
          s.made.made,
          straight_stands scene count plan final h rounds cs block s counting
              (stands_spread scene count plan (holds scene count plan final h) rounds s.made.around s.made.round s.made.stands_in (straight_stands_few (known_in scene) (program_seen scene.program.now) h.ready.limits (loops_round rounds) s.located s.placed))
              (sets_unused s.made.between.values.log.items s.made.between.values.current.items),
        ) in
        let all : AllStand scene (k.of.done ++ k.of.folds) = subst (λ (ls : List Located). AllStand scene ls) k.are (straight_all scene count plan final h rounds cs block s counting) in
        record {
          around = s.made.around;
          done = k.of.done;
          folds = k.of.folds;
          old = s.made.before;
          new = s.made.between;
          made = pair.0;
          more = sets_made s.made.between.values.log.items s.made.between.values.current.items;
          reads = reads_in scene (λ n. any_makes n s.located);
          stands = pair.1;
          along = straight_along scene count plan final h rounds cs block s counting;
          keeps = λ registers memories fit held turns.
              both_all (λ (c : Located). CommandKeeps (step_of_block plan block registers memories) scene s.made.around.levels.now c.command) k.of.done k.of.folds
              (each_keeps registers memories turns _ k.of.done k.sound.first (first_all (λ (c : Located). StandsAmong 0 (trace (program_seen scene.program.now)) c) k.of.done k.of.folds all) (first_all (IsBehindViews (program_seen scene.program.now)) k.of.done k.of.folds k.behind))
              (each_keeps registers memories turns _ k.of.folds k.sound.then_folds (then_all (λ (c : Located). StandsAmong 0 (trace (program_seen scene.program.now)) c) k.of.done k.of.folds all) (then_all (IsBehindViews (program_seen scene.program.now)) k.of.done k.of.folds k.behind));
        }

  -- Tests.

  module _ (rounds : List Round) (test : CoreTerm) (flag block : ℕ) (s : IsTestBlock scene final rounds test flag block) (counting : AreCounting scene (placing_in scene) rounds) where
    test_told : IsPlaceTold scene s.made.around plan rounds
    test_told =
        place scene count plan final h rounds s.made.around s.made.round s.made.stands_in counting (tests (core_test (known_in scene) s.tested))
        (run_here scene h.ways (loops_round rounds) (tests (core_test (known_in scene) s.tested))
        (test_run (known_in scene) (phases_of (program_seen scene.program.now)) [] (loops_round rounds) s.tested s.placed))

    test_keeps : (registers : List ℕ) (memories : List (List ℕ)) → InTurns registers rounds → TermKeeps (step_of_block plan block registers memories) scene s.made.around.levels.now (λ e. ⊥) s.term
    test_keeps registers memories turns =
        let ok = test_ok scene s.tested.command s.tested.around s.term s.term_is (command_ok scene h.ready (table scene count plan final h) (sym (known_here scene h.ways)) s.tested (test_stand scene count plan final h rounds test flag block s counting)) in
        term_keeps (step_of_block plan block registers memories) scene s.made.around.levels.now plan.table (λ r k. IsNamedHere scene s.made.around.levels.now plan.registers rounds (λ entity. false) r k)
        (names_turn scene plan block registers memories rounds s.made.around.levels.now s.made.round.paths test_told.tells test_told.told s.made.round.levels.within (loops_have_copies (program_seen scene.program.now) h.ready.indices) turns (λ entity. false))
        (seen_so scene s.made.around.levels.now plan.registers rounds (λ entity. false)) h.table h.ready (table scene count plan final h) (sym (known_here scene h.ways)) h.views
        (λ e. ⊥) ok.site s.term (test_sound scene count plan final h rounds test flag block s counting).sound.sound (all_free scene (λ e. ⊥) (none_free scene) s.term) ok.ok

    reached_test : ReachedTest scene plan count rounds block
    reached_test = record {
      around = s.made.around;
      tested = s.tested;
      test = s.term;
      old = s.made.before;
      new = s.made.between;
      next = s.made.next;
      tests = s.made.tests;
      more = flag_made (is_read_term s.term) flag (slice_index s.made.tests 0) (length s.made.between.draft.operations.items);
      reads = reads_in scene (λ n. test_makes n s.tested);
      stands = test_stands_so scene count plan final h rounds test flag block s counting;
      has = test_has scene count plan final h rounds test flag block s counting;
      test_is = s.term_is;
      keeps = λ registers memories fit held turns. test_keeps registers memories turns;
    }

pub made_keep_banks : MadePlansKeepBanks
made_keep_banks scene count plan final h =
    reached_keep_banks scene plan count (core_of (program_seen scene.program.now)).phases (record {
      table = h.of.table;
      meets = h.meets.as_program;
      there = λ number less. h.meets.range.there number (omega arith) (omega (arith, less));
      nodes = nodes_tied scene final (reached_tie scene plan count) (λ rounds cs block all m. reached_block scene count plan final h.of rounds cs block m all)
          (λ rounds test flag block all m. reached_test scene count plan final h.of rounds test flag block m all) (λ rounds loop counter all counts other is. tt) [] (core_of (program_seen scene.program.now)).phases plan.body tt (loops_are_own scene h.of.ready.entities (holds_own scene count h.of.order)).inside h.nodes;
    })
