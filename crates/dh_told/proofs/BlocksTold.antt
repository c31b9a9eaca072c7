-- Each block of a plan that was made of a ready program is sound and formed, in whatever loops it stands that count.
use Rattle.std.proofs.Common.{◌≡◌, inl, ℕ, ◌<◌, ◌≤◌, Bool, false, List, [], ◌∷◌, ◌++◌, length, Option, None, ap, sym, ◌∙◌, subst}
use Rattle.std.specs.List.{AllByRecursion}
use Rattle.std.proofs.lemmas.List.{length-replicate}
use Rattle.dh_value.specs.declared.kinds.Kind.{Kind}
use Rattle.dh_tree.specs.declared.tables.MemEntry.{MemEntry}
use Rattle.dh_tree.specs.Memories.{table_of}
use Rattle.dh_tree.specs.Ready.{most_tokens}
use Rattle.dh_tree.specs.Seen.{program_seen}
use Rattle.dh_tree.specs.Shapes.{IsProgramTable}
use Rattle.dh_tree.proofs.ProgramTables.{program_table}
use Rattle.dh_meaning.specs.Core.{CoreCommands, CoreTerm}
use Rattle.dh_meaning.specs.CoreOf.{Known, core_commands, core_of, core_test}
use Rattle.dh_meaning.specs.Effects.{Block, commands, tests}
use Rattle.dh_meaning.specs.OnePhase.{any_makes, test_makes}
use Rattle.dh_meaning.specs.Phases.{Located, idle_phases_of, phases_of}
use Rattle.dh_meets.specs.SourceEvents.{trace}
use Rattle.dh_lengths.specs.SharedReads.{share_told}
use Rattle.dh_sound.specs.Blocks as runs
use Rattle.dh_meaning.specs.Sites.{nothing_around}
use Rattle.dh_sound.specs.PhaseFacts.{HasStraight, HasTest, StandsAmong}
use Rattle.dh_sound.specs.Straight.{IsKeptAction}
use Rattle.dh_sound.proofs.KeptPrograms.{ready_kept}
use Rattle.dh_sound.proofs.SamePhase.{straight_has_both, test_has_both}
use Rattle.dh_sound.proofs.Slices.{straight_either, straight_stands, test_either, test_stands}
use Rattle.dh_plan.specs.Correspondence.{Round, loops_round}
use Rattle.dh_plan.specs.PlainPlans.{PlainPlan}
use Rattle.dh_plan.specs.PlanKinds.{IsFormedBlock}
use Rattle.dh_expressions.specs.declared.scenes.Around.{Around}
use Rattle.dh_expressions.specs.declared.scenes.Scene.{Scene}
use Rattle.dh_expressions.specs.Evaluated.{known_in}
use Rattle.dh_expressions.specs.Shown.{is_read_term}
use Rattle.dh_formed.specs.Formed.{BlockSite}
use Rattle.dh_formed.specs.WholeBlocks.{IsCut, block_of}
use Rattle.dh_commands.specs.LanesRun.{paths_counted}
use Rattle.dh_commands.specs.ShownVariables.{IsSeen}
use Rattle.dh_blocks.specs.BlockMade.{AreSoundBy, AreSoundHere, IsTop}
use Rattle.dh_blocks.specs.BlockTraced.{SceneTellsShares}
use Rattle.dh_blocks.specs.NamedVariables.{IsNamedHere}
use Rattle.dh_blocks.specs.SlotsOfScene.{HoldsVariables, placing_in}
use Rattle.dh_blocks.specs.SoundCommands.{SoundAction}
use Rattle.dh_blocks.specs.SoundTerms.{IsSound}
use Rattle.dh_laid.specs.BlockSites.{block_sites, test_sites}
use Rattle.dh_laid.specs.LaidNumbers.{StoresReach}
use Rattle.dh_laid.specs.LaidQuiet.{BlockStandsIn}
use Rattle.dh_typed_blocks.specs.ScenesTold.{TellsScene}
use Rattle.dh_typed_blocks.specs.SoundBlocks.{IsPlaceTold}
use Rattle.dh_typed_blocks.specs.TypedTerms.{ActionTyped}
use Rattle.dh_typed_laid.specs.SuitingBlocks.{FitsBlock, KeepsShares, StandsSo}
use Rattle.dh_gathering.specs.declared.blocks.Made.{Made}
use Rattle.dh_gathering.specs.LoopCounters.{AreCounting}
use Rattle.dh_gathering.specs.MadeBlocks.{IsRoundBlock, IsStraightBlock, IsTestBlock}
use Rattle.dh_gathering.specs.PushedSets.{settings}
use Rattle.dh_phased.specs.DonePhases.{IsSoundStraight, IsSoundTested}
use Rattle.dh_phased.proofs.ReachingPhases.{ready_scenes_are_told}
use Rattle.dh_phased.proofs.RoundsTop.{rounds_are_top}
use Rattle.dh_used.specs.SourceSites.{AllStand, AreSited}
use Rattle.dh_used.proofs.BlocksByKeys.{each_of}
use Rattle.dh_used.proofs.SharesOfProgram.{any_below, test_below}
use Rattle.dh_used.proofs.NodesMade.{straight_named}
use Rattle.dh_used.proofs.PlansUsed.{all_named, phases_named}
use Rattle.dh_used.proofs.SitesOfSource.{blocks_are_sited, tests_are_sited}
use Rattle.dh_told.specs.MadeFormed.{HasMadeRegisters}
use Rattle.dh_told.specs.PlacedSound.{SoundStraight, SoundTest}
use Rattle.dh_told.proofs.BlocksFormed.{made_straights_are_formed, made_tests_are_formed}
use Rattle.dh_told.proofs.BlocksPlaced.{placed_straights_are_sound, placed_tests_are_sound}
use Rattle.dh_told.proofs.CoreHere.{run_here}
use Rattle.dh_told.proofs.PhasesHeld.{straight_run, straight_there, test_run, test_there}
use Rattle.dh_typed_blocks.proofs.KnownHere.{known_here}
use Rattle.dh_told.proofs.NamedDirectly.{ways_here}
use Rattle.dh_told.specs.PlansTold.{IsOfReady, ReadyPlansAreSound}
use Rattle.dh_told.proofs.BlocksCut.{adds_then, each_adds, flag_adds, made_cut, tests_add}
use Rattle.dh_told.proofs.EntitiesKnown.{scenes_tell}
use Rattle.dh_told.proofs.RoundsKnown.{rounds_known}
use Rattle.dh_told.proofs.SharesKept.{shares_kept}
use Rattle.dh_told.proofs.VariablesKept.{scenes_hold}

pub both_all : {A : Type 0} (P : A → Type 0) (xs ys : List A) → AllByRecursion P xs → AllByRecursion P ys → AllByRecursion P (xs ++ ys)
both_all P [] ys h k = k
both_all P (x ∷ xs) ys h k = (h.0, both_all P xs ys h.1 k)

pub first_all : {A : Type 0} (P : A → Type 0) (xs ys : List A) → AllByRecursion P (xs ++ ys) → AllByRecursion P xs
first_all P [] ys h = tt
first_all P (x ∷ xs) ys h = (h.0, first_all P xs ys h.1)

pub then_all : {A : Type 0} (P : A → Type 0) (xs ys : List A) → AllByRecursion P (xs ++ ys) → AllByRecursion P ys
then_all P [] ys h = h
then_all P (x ∷ xs) ys h = then_all P xs ys h.1

module _ (scene : Scene) (count : ℕ) (plan : PlainPlan) (final : Made) (h : IsOfReady scene count plan final) where
  pub tells : TellsScene scene
  tells = scenes_tell scene count h.ready h.order h.ways

  pub holds : HoldsVariables scene plan count
  holds = scenes_hold scene plan count h.ready h.order h.views h.scopes h.table h.kinds

  pub has : HasMadeRegisters plan final
  has = record {
    registers = h.made.registers;
    given = subst (λ (n : ℕ). n ≤ length final.registers) (sym h.made.given) (subst (λ (ks : List Kind). count ≤ length ks) h.made.registers holds.within);
  }

  pub table : IsProgramTable (table_of (program_seen scene.program.now))
  table = program_table (program_seen scene.program.now) most_tokens h.ready.of_text h.ready.names h.ready.built h.ready.indices h.ready.limits h.ready.placements

  pub shares_told : SceneTellsShares scene
  shares_told k j e = sym (h.shares.all k) ∙ ap (λ o. share_told o) e

  -- where a block stands
  module _ (rounds : List Round) (around : Around) (round : IsRoundBlock rounds around) (stands : BlockStandsIn scene around) (counting : AreCounting scene (placing_in scene) rounds) where
    top : IsTop rounds around
    top = rounds_are_top scene rounds around round stands

    pub place : (b : Block) → runs.StandsIn [] (core_of (program_seen scene.program.now)).phases (loops_round rounds) b → IsPlaceTold scene around plan rounds
    place b here = record { tells = tells; top = top; told = rounds_known scene count plan h.order h.kinds rounds b h.ready counting here; table = h.table }

    pub stands_so : (block : ℕ) (sites : ℕ → Option BlockSite) → KeepsShares (block_of plan block sites) scene → StandsSo (block_of plan block sites) scene count around
    stands_so block sites shares = record {
      holds = holds;
      table = table;
      spread = top.spread;
      counted = top.counted;
      some = subst (λ (n : ℕ). 0 < n) (sym (ap (λ (gs : List (Option ℕ)). length gs) round.guards ∙ length-replicate round.paths None)) round.levels.some;
      kinds = tells.kind;
      plain = tells.plain;
      views = h.views;
      ways = ways_here scene h.ready table (sym (known_here scene h.ways));
      shares = shares;
    }

    -- commands that are sound and typed fit the block, whose sites are these
    pub sound_here : (sites : ℕ → Option BlockSite) (block : ℕ) (touched : ℕ → Bool) (c : Located) → SoundAction scene around.levels.now plan.table (IsNamedHere scene around.levels.now plan.registers rounds touched) (IsSeen scene around.levels.now) c.command
        → ActionTyped (known_in scene) (table_of (program_seen scene.program.now)) c.command → FitsBlock (block_of plan block sites) scene around rounds c
    sound_here sites block touched c s t = record {
      touched = touched;
      sound = subst (λ (tb : List MemEntry). SoundAction scene around.levels.now tb (IsNamedHere scene around.levels.now plan.registers rounds touched) (IsSeen scene around.levels.now) c.command) h.table s;
      typed = t;
    }

    fit_by : (sites : ℕ → Option BlockSite) (block : ℕ) (touched : ℕ → Bool) (cs : List Located) → AreSoundBy touched scene around plan rounds cs → AllByRecursion (λ (c : Located). ActionTyped (known_in scene) (table_of (program_seen scene.program.now)) c.command) cs
        → AllByRecursion (FitsBlock (block_of plan block sites) scene around rounds) cs
    fit_by sites block touched [] s t = tt
    fit_by sites block touched (c ∷ cs) s t = (sound_here sites block touched c s.0 t.0, fit_by sites block touched cs s.1 t.1)

    all_fit : (sites : ℕ → Option BlockSite) (block : ℕ) (done folds located : List Located) → located ≡ done ++ folds → AreSoundHere scene around plan rounds done folds
        → AllByRecursion (λ (c : Located). ActionTyped (known_in scene) (table_of (program_seen scene.program.now)) c.command) (done ++ folds) → AllByRecursion (FitsBlock (block_of plan block sites) scene around rounds) located
    all_fit sites block done folds located are s t =
        subst (λ (cs : List Located). AllByRecursion (FitsBlock (block_of plan block sites) scene around rounds) cs) (sym are)
        (both_all (FitsBlock (block_of plan block sites) scene around rounds) done folds
        (fit_by sites block _ done s.first (first_all (λ (c : Located). ActionTyped (known_in scene) (table_of (program_seen scene.program.now)) c.command) done folds t))
        (fit_by sites block _ folds s.then_folds (then_all (λ (c : Located). ActionTyped (known_in scene) (table_of (program_seen scene.program.now)) c.command) done folds t)))

  -- Straight commands.

  module _ (rounds : List Round) (cs : CoreCommands) (block : ℕ) (s : IsStraightBlock scene final rounds cs block) (counting : AreCounting scene (placing_in scene) rounds) where
    pub straight_sound : SoundStraight scene s.made.around plan rounds s.located
    straight_sound =
        placed_straights_are_sound scene s.made.around plan rounds s.located h.ready
        (place rounds s.made.around s.made.round s.made.stands_in counting (commands (core_commands (known_in scene) s.located))
        (run_here scene h.ways (loops_round rounds) (commands (core_commands (known_in scene) s.located))
        (straight_run (known_in scene) (phases_of (program_seen scene.program.now)) [] (loops_round rounds) s.located s.placed)))
        s.placed

    pub straight_found : HasStraight (phases_of (program_seen scene.program.now) ++ idle_phases_of (program_seen scene.program.now)) s.located
    straight_found =
        straight_either (phases_of (program_seen scene.program.now)) (idle_phases_of (program_seen scene.program.now)) s.located
        (inl (straight_there (known_in scene) (phases_of (program_seen scene.program.now)) [] (loops_round rounds) s.located s.placed))

    pub straight_all : AllStand scene s.located
    straight_all = each_of (λ (c : Located). StandsAmong 0 (trace (program_seen scene.program.now)) c) s.located (λ c g. straight_stands (program_seen scene.program.now) s.located c straight_found g)

    pub straight_reach : AllByRecursion (λ (c : Located). StoresReach c.command) s.located
    straight_reach = (ready_scenes_are_told scene h.ready h.scopes).stores (loops_round rounds) s.located s.placed

    pub straight_names : AllByRecursion (λ (c : Located). IsKeptAction (known_in scene) c.command) s.located
    straight_names =
        all_named (known_in scene) s.located
        (straight_named (known_in scene) (phases_of (program_seen scene.program.now)) s.located
        (phases_named (known_in scene) nothing_around 0 (program_seen scene.program.now).body
        (subst (λ (known : Known). IsKeptAction known (program_seen scene.program.now).body) (known_here scene h.ways) (ready_kept (program_seen scene.program.now) h.ready)))
        (straight_there (known_in scene) (phases_of (program_seen scene.program.now)) [] (loops_round rounds) s.located s.placed))

    straight_sited : AreSited scene s.made.around (λ number. any_makes number s.located) (block_sites scene s.made.around s.located s.made.before s.made.between s.made.made)
    straight_sited = blocks_are_sited scene s.made.around s.located s.made.before s.made.between s.made.made straight_names straight_all

    pub straight_shares : KeepsShares (block_of plan block (block_sites scene s.made.around s.located s.made.before s.made.between s.made.made)) scene
    straight_shares =
        shares_kept scene h.shares plan block s.made.around (λ number. any_makes number s.located) (block_sites scene s.made.around s.located s.made.before s.made.between s.made.made) straight_sited
        (λ k e. any_below (trace (program_seen scene.program.now)) s.located k straight_all e) (λ j k one made. straight_has_both (program_seen scene.program.now) s.located j k straight_found made one)

    pub straight_cut : IsCut plan block s.made.before.draft s.made.after.draft
    straight_cut =
        made_cut plan count final h.made block s.made.before s.made.after s.made.stands
        (adds_then s.made.before.draft s.made.between.draft s.made.after.draft (each_adds scene s.made.around s.located s.made.before s.made.between s.made.stands_in s.made.made) (settings s.made.sets.sets, s.made.sets.operations))

    pub straight_formed : IsFormedBlock plan block
    straight_formed =
        made_straights_are_formed scene plan count final rounds s.located block s.made straight_cut has
        (stands_so rounds s.made.around s.made.round s.made.stands_in counting block (block_sites scene s.made.around s.located s.made.before s.made.between s.made.made) straight_shares)
        (all_fit rounds s.made.around s.made.round s.made.stands_in counting (block_sites scene s.made.around s.located s.made.before s.made.between s.made.made) block straight_sound.of.done straight_sound.of.folds s.located straight_sound.are
        straight_sound.sound straight_sound.typed)

    pub straight_told : IsSoundStraight scene s.made.around plan rounds block s.located
    straight_told = record {
      done = straight_sound.of.done;
      folds = straight_sound.of.folds;
      are = straight_sound.are;
      ordered = straight_formed.ordered;
      sound = straight_sound.sound;
      traced = straight_sound.traced shares_told;
    }

  -- Tests.

  module _ (rounds : List Round) (test : CoreTerm) (flag block : ℕ) (s : IsTestBlock scene final rounds test flag block) (counting : AreCounting scene (placing_in scene) rounds) where
    pub test_sound : SoundTest scene s.made.around plan rounds s.tested s.term
    test_sound =
        placed_tests_are_sound scene s.made.around plan rounds s.tested s.term h.ready
        (place rounds s.made.around s.made.round s.made.stands_in counting (tests (core_test (known_in scene) s.tested))
        (run_here scene h.ways (loops_round rounds) (tests (core_test (known_in scene) s.tested))
        (test_run (known_in scene) (phases_of (program_seen scene.program.now)) [] (loops_round rounds) s.tested s.placed)))
        s.placed s.term_is

    pub test_found : HasTest (phases_of (program_seen scene.program.now) ++ idle_phases_of (program_seen scene.program.now)) s.tested
    test_found =
        test_either (phases_of (program_seen scene.program.now)) (idle_phases_of (program_seen scene.program.now)) s.tested
        (inl (test_there (known_in scene) (phases_of (program_seen scene.program.now)) [] (loops_round rounds) s.tested s.placed))

    pub test_stand : StandsAmong 0 (trace (program_seen scene.program.now)) s.tested
    test_stand = test_stands (program_seen scene.program.now) s.tested test_found

    pub test_shares : KeepsShares (block_of plan block (test_sites scene s.made.around s.tested.first s.term)) scene
    test_shares =
        shares_kept scene h.shares plan block s.made.around (λ number. test_makes number s.tested) (test_sites scene s.made.around s.tested.first s.term) (tests_are_sited scene s.made.around s.tested s.term s.term_is test_stand)
        (λ k e. test_below (trace (program_seen scene.program.now)) s.tested k test_stand e) (λ j k one made. test_has_both (program_seen scene.program.now) s.tested j k test_found made one)

    pub test_known : IsSound (known_in scene) (table_of (program_seen scene.program.now)) (IsNamedHere scene s.made.around.levels.now plan.registers rounds (λ entity. false)) s.term
    test_known = subst (λ (tb : List MemEntry). IsSound (known_in scene) tb (IsNamedHere scene s.made.around.levels.now plan.registers rounds (λ entity. false)) s.term) h.table test_sound.sound.sound

    pub test_cut : IsCut plan block s.made.before.draft s.made.after.draft
    test_cut =
        made_cut plan count final h.made block s.made.before s.made.after s.made.stands
        (adds_then s.made.before.draft s.made.between.draft s.made.after.draft
        (tests_add scene s.made.around s.tested.first s.term (paths_counted s.made.around) s.made.before s.made.between s.made.next s.made.tests s.made.stands_in s.made.made)
        (flag_adds (is_read_term s.term) s.made.between.draft s.made.after.draft s.made.value flag s.made.adds))

    pub test_formed : IsFormedBlock plan block
    test_formed =
        made_tests_are_formed scene plan count final rounds (λ entity. false) s.tested.first s.term flag block s.made test_cut has
        (stands_so rounds s.made.around s.made.round s.made.stands_in counting block (test_sites scene s.made.around s.tested.first s.term) test_shares)
        test_known test_sound.typed test_sound.sound.kind_is

    pub test_told : IsSoundTested scene s.made.around plan rounds block s.tested s.term
    test_told = record {
      ordered = test_formed.ordered;
      sound = test_sound.sound;
      traced = test_sound.traced shares_told;
    }

pub plans_told : ReadyPlansAreSound
plans_told scene count plan final h = record {
  straights = λ rounds cs block s counting. straight_told scene count plan final h rounds cs block s counting;
  tests = λ rounds test flag block s counting. test_told scene count plan final h rounds test flag block s counting;
}
