-- The blocks of a ready program's plan stand as what is told of their lengths asks.
use Rattle.std.proofs.Common.{inl, inr, ℕ, Bool, true, false, List, [], ◌∷◌, refl, sym, subst}
use Rattle.std.specs.Prelude.{Option}
use Rattle.std.specs.List.{AllByRecursion}
use Rattle.dh_tree.specs.declared.tables.MemEntry.{MemEntry}
use Rattle.dh_tree.specs.Memories.{table_of}
use Rattle.dh_tree.specs.Seen.{program_seen}
use Rattle.dh_meaning.specs.Core.{CoreCommands, CoreTerm}
use Rattle.dh_meaning.specs.CoreOf.{core_of}
use Rattle.dh_meaning.specs.Phases.{Located}
use Rattle.dh_meets.specs.Sharing.{shared}
use Rattle.dh_sound.specs.SimpleForms.{FoldsInJoins}
use Rattle.dh_plan.specs.Correspondence.{Round}
use Rattle.dh_plan.specs.PlainPlans.{PlainPlan}
use Rattle.dh_expressions.specs.declared.scenes.Scene.{Scene}
use Rattle.dh_expressions.specs.Evaluated.{known_in}
use Rattle.dh_formed.specs.Formed.{BlockSite}
use Rattle.dh_formed.specs.WholeBlocks.{block_of}
use Rattle.dh_commands.specs.ShownVariables.{IsSeen}
use Rattle.dh_blocks.specs.BlockMade.{AreSoundBy}
use Rattle.dh_blocks.specs.NamedVariables.{IsNamedHere}
use Rattle.dh_blocks.specs.SlotsOfScene.{placing_in}
use Rattle.dh_blocks.specs.SoundCommands.{SoundAction}
use Rattle.dh_laid.specs.BlockSites.{block_sites, test_sites}
use Rattle.dh_typed_blocks.specs.TypedTerms.{ActionTyped}
use Rattle.dh_gathering.specs.declared.blocks.Made.{Made}
use Rattle.dh_gathering.specs.LoopCounters.{AreCounting}
use Rattle.dh_gathering.specs.MadeBlocks.{IsStraightBlock, IsTestBlock}
use Rattle.dh_phased.specs.ProgramLoops.{HasOwnLoops}
use Rattle.dh_phased.proofs.LoopsCounted.{loops_are_own}
use Rattle.dh_told.specs.MeasuredBlocks.{FitsAlone, StandsStraight, StandsTest}
use Rattle.dh_told.proofs.PlansMeasured.{made_plans_are_long}
use Rattle.dh_told.specs.PlansTold.{IsOfReady}
use Rattle.dh_told.proofs.BlocksTold.{both_all, first_all, has, sound_here, stands_so, straight_all, straight_cut, straight_found, straight_names, straight_shares, straight_sound, test_cut, test_found, test_known, test_shares, test_sound, test_stand, then_all}
use Rattle.dh_told.proofs.VariablesKept.{holds_own}
use Rattle.dh_told.specs.LastingPlans.{ReadyPlansAreMeasured, ReadyPlansHaveLengths}
use Rattle.dh_told.proofs.SharesWithin.{straight_within, test_within}

module _ (scene : Scene) (count : ℕ) (plan : PlainPlan) (final : Made) (h : IsOfReady scene count plan final) where
  module _ (rounds : List Round) (cs : CoreCommands) (block : ℕ) (s : IsStraightBlock scene final rounds cs block) (counting : AreCounting scene (placing_in scene) rounds) where
    abbrev IsTypedHere : Located → Type 0
    IsTypedHere c = ActionTyped (known_in scene) (table_of (program_seen scene.program.now)) c.command

    abbrev sites : (number : ℕ) → Option BlockSite
    sites number = block_sites scene s.made.around s.located s.made.before s.made.between s.made.made number

    abbrev Fits : Located → Type 0
    Fits c = FitsAlone (block_of plan block sites) scene s.made.around rounds c

    simple_fit : (touched : ℕ → Bool) (ls : List Located) → AreSoundBy touched scene s.made.around plan rounds ls → AllByRecursion IsTypedHere ls → AllByRecursion (λ (c : Located). FoldsInJoins c.command) ls → AllByRecursion Fits ls
    simple_fit touched [] sound typed simple = tt
    simple_fit touched (c ∷ ls) sound typed simple = (
      record { fits = sound_here scene count plan final h rounds s.made.around s.made.round s.made.stands_in counting sites block touched c sound.0 typed.0; alone = inl simple.0 },
      simple_fit touched ls sound.1 typed.1 simple.1,
    )

    folds_fit : (ls : List Located) → AreSoundBy (λ entity. true) scene s.made.around plan rounds ls → AllByRecursion IsTypedHere ls → AllByRecursion Fits ls
    folds_fit [] sound typed = tt
    folds_fit (c ∷ ls) sound typed = (
      record {
        fits = record {
          touched = λ entity. true;
          sound = subst (λ (tb : List MemEntry). SoundAction scene s.made.around.levels.now tb (IsNamedHere scene s.made.around.levels.now plan.registers rounds (λ entity. true)) (IsSeen scene s.made.around.levels.now) c.command) h.table sound.0;
          typed = typed.0;
        };
        alone = inr (λ entity. refl);
      },
      folds_fit ls sound.1 typed.1,
    )

    all_alone : AllByRecursion Fits s.located
    all_alone =
        let k = straight_sound scene count plan final h rounds cs block s counting in
        subst (λ (ls : List Located). AllByRecursion Fits ls) (sym k.are)
        (both_all Fits k.of.done k.of.folds (simple_fit _ k.of.done k.sound.first (first_all IsTypedHere k.of.done k.of.folds k.typed) k.joins) (folds_fit k.of.folds k.sound.then_folds (then_all IsTypedHere k.of.done k.of.folds k.typed)))

    straight_measured : StandsStraight scene plan count final rounds s.located block (shared (program_seen scene.program.now)) s.made
    straight_measured = record {
      cut = straight_cut scene count plan final h rounds cs block s counting;
      registers = has scene count plan final h;
      counted = sym h.made.given;
      stands = stands_so scene count plan final h rounds s.made.around s.made.round s.made.stands_in counting block sites (straight_shares scene count plan final h rounds cs block s counting);
      fits = all_alone;
      shares =
          straight_within scene h.shares s.located (straight_names scene count plan final h rounds cs block s counting) (straight_all scene count plan final h rounds cs block s counting)
          (straight_found scene count plan final h rounds cs block s counting);
    }

  module _ (rounds : List Round) (test : CoreTerm) (flag block : ℕ) (s : IsTestBlock scene final rounds test flag block) (counting : AreCounting scene (placing_in scene) rounds) where
    test_measured : StandsTest scene plan count final rounds s.tested.first s.term flag block (shared (program_seen scene.program.now)) s.made
    test_measured = record {
      cut = test_cut scene count plan final h rounds test flag block s counting;
      registers = has scene count plan final h;
      counted = sym h.made.given;
      stands =
          stands_so scene count plan final h rounds s.made.around s.made.round s.made.stands_in counting block (test_sites scene s.made.around s.tested.first s.term) (test_shares scene count plan final h rounds test flag block s counting);
      touched = λ entity. false;
      sound = test_known scene count plan final h rounds test flag block s counting;
      typed = (test_sound scene count plan final h rounds test flag block s counting).typed;
      truth = (test_sound scene count plan final h rounds test flag block s counting).sound.kind_is;
      shares = test_within scene h.shares s.tested s.term s.term_is (test_stand scene count plan final h rounds test flag block s counting) (test_found scene count plan final h rounds test flag block s counting);
    }

pub plans_measured : ReadyPlansAreMeasured
plans_measured scene count plan final h = record {
  straights = λ rounds cs block s counting. straight_measured scene count plan final h rounds cs block s counting;
  tests = λ rounds test flag block s counting. test_measured scene count plan final h rounds test flag block s counting;
}

pub plans_last : ReadyPlansHaveLengths
plans_last scene count plan final h =
    let own : HasOwnLoops scene = loops_are_own scene h.of.ready.entities (holds_own scene count h.of.order) in
    made_plans_are_long scene plan count final (core_of (program_seen scene.program.now)).phases plan.body (plans_measured scene count plan final h.of) own.inside h.nodes
