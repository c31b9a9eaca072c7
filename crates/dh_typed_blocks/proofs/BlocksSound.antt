-- The blocks of a ready program are sound, where the scene and the plan are of it.
use Rattle.std.proofs.Common.{◌≡◌, inl, inr, ℕ, ◌≤◌, Bool, true, false, List, [], ◌∷◌, ◌++◌, length, Some, refl, sym, subst}
use Rattle.std.specs.List.{AllByRecursion}
use Rattle.dh_value.specs.declared.kinds.Kind.{Kind}
use Rattle.dh_tree.specs.declared.tables.MemEntry.{MemEntry}
use Rattle.dh_tree.specs.declared.trees.expressions.Ref.{Ref}
use Rattle.dh_tree.specs.PlainTrees.{Term, Action, action, lets, lets_memory, views, assigns, stores, reduces, calls, blocks, decides, repeats, counts, Program}
use Rattle.dh_tree.specs.Ready.{IsReady}
use Rattle.dh_tree.specs.Seen.{program_seen}
use Rattle.dh_meaning.specs.Bindings.{binding_in, depth_bound}
use Rattle.dh_meaning.specs.Core.{Turning}
use Rattle.dh_meaning.specs.CoreOf.{Known, known_of, core_commands, core_of, action_form_of, test_of}
use Rattle.dh_meaning.specs.Effects.{Block}
use Rattle.dh_meaning.specs.Levels.{any_assigns}
use Rattle.dh_meaning.specs.Phases.{Located}
use Rattle.dh_plan.specs.Correspondence.{Round, loops_round}
use Rattle.dh_plan.specs.PlainPlans.{PlainPlan}
use Rattle.dh_runnable.specs.ActionsRun.{table_known}
use Rattle.dh_sound.specs.AssignsInside.{AssignsInside}
use Rattle.dh_sound.proofs.SortsOfPrograms.{assigns_inside}
use Rattle.dh_sound.specs.Blocks.{factors, StandsIn}
use Rattle.dh_sound.specs.LoopsMatch.{AreSpared}
use Rattle.dh_sound.specs.SimpleForms.{FoldsInJoins}
use Rattle.dh_sound.specs.Standing.{Spares}
use Rattle.dh_sound.proofs.AssignsInside.{commands_deep, touched_deep}
use Rattle.dh_sound.proofs.Folds.{first_assigned}
use Rattle.dh_sound.proofs.ReadyKeeps.{ready_keeps}
use Rattle.dh_sound.proofs.TurnsOfIndices.{spared_commands, spared_test}
use Rattle.dh_code.specs.Declarations.{placing_of}
use Rattle.dh_code.specs.Slots.{Placing}
use Rattle.dh_expressions.specs.declared.scenes.Around.{Around}
use Rattle.dh_expressions.specs.declared.scenes.Scene.{Scene}
use Rattle.dh_expressions.specs.Evaluated.{known_in}
use Rattle.dh_commands.specs.ShownVariables.{IsSeen}
use Rattle.dh_blocks.specs.NamedVariables.{IsNamedHere}
use Rattle.dh_blocks.specs.SoundCommands.{SoundAction}
use Rattle.dh_blocks.specs.SoundTerms.{IsSound}
use Rattle.dh_blocks.proofs.SoundMapped.{term_mapped}
use Rattle.dh_typed_blocks.specs.SoundBlocks.{IsPlaceTold, StraightSound, TestSound, ReadyBlocksAreSound}
use Rattle.dh_typed_blocks.proofs.BlocksFit.{block_fits}
use Rattle.dh_typed_blocks.proofs.BlocksHolding.{StraightHolds, TestHolds}
use Rattle.dh_typed_blocks.proofs.CommandsHere.{all_inside, all_here, folds_here}
use Rattle.dh_typed_blocks.proofs.CommandsTyped.{all_typed}
use Rattle.dh_typed_blocks.proofs.Fitting.{IsNamedIn, TestFits, Fits}
use Rattle.dh_typed_blocks.proofs.FittingParts.{SimpleFits, JoinFits}
use Rattle.dh_typed_blocks.proofs.IteratorsSorted.{ready_plain}
use Rattle.dh_typed_blocks.proofs.KnownHere.{known_here}
use Rattle.dh_typed_blocks.proofs.MemoriesFew.{ready_few}
use Rattle.dh_typed_blocks.proofs.NamesHere.{named_here}
use Rattle.dh_typed_blocks.proofs.PhasesHolding.{EachFold, EachOf}

pub ready_assigns : (p : Program) → IsReady p → AssignsInside (known_of p) 0 p.body
ready_assigns p r = assigns_inside p r (record { names = r.names; entities = r.entities; kinds = r.kinds; suits = r.suits; widths = r.of_text.widths })

-- commands that spare the iterators of loops with others behind them spare them without
spares_less : (known : Known) (cs ds : List Located) (loops : List Turning) → Spares (core_commands known (cs ++ ds)) loops → Spares (core_commands known cs) loops
spares_less known cs ds [] h = tt
spares_less known cs ds (loop ∷ loops) h = (first_assigned known loop.iterator cs ds h.0, spares_less known cs ds loops h.1)

module _ (known : Known) (p : Placing) (ts : List Turning) where
  all_simple : (cs : List Located) → EachOf (SimpleFits known p) ts cs → AllByRecursion (λ (c : Located). FoldsInJoins c.command) cs
  all_simple [] h = tt
  all_simple (c ∷ cs) h = (h.0.0, all_simple cs h.1)

  -- the test of a command that fits
  test_fits : (a : Action) (t : Term) → test_of (action_form_of a) ≡ Some t → Fits known p ts a → TestFits known p ts t
  test_fits (action id place (decides test chosen other)) t e h = let same : test ≡ t = cc in subst (λ (x : Term). TestFits known p ts x) same h.0
  test_fits (action id place (repeats test body)) t e h = let same : test ≡ t = cc in subst (λ (x : Term). TestFits known p ts x) same h.0
  test_fits (action id place (lets name declared value)) t e h = absurd cc
  test_fits (action id place (lets_memory name shape shape_places value)) t e h = absurd cc
  test_fits (action id place (views name parent form)) t e h = absurd cc
  test_fits (action id place (assigns target value)) t e h = absurd cc
  test_fits (action id place (stores target value)) t e h = absurd cc
  test_fits (action id place (reduces target o value)) t e h = absurd cc
  test_fits (action id place (calls function arguments)) t e h = absurd cc
  test_fits (action id place (blocks body)) t e h = absurd cc
  test_fits (action id place (counts iterator declared low high factor body combine combine_place)) t e h = absurd cc

module _ (scene : Scene) (around : Around) (plan : PlainPlan) (rounds : List Round) where
  abbrev p : Program
  p = program_seen scene.program.now

  abbrev places : Placing
  places = placing_of (program_seen scene.program.now)

  module _ (ready : IsReady p) (place : IsPlaceTold scene around plan rounds) (block : Block) (stands : StandsIn [] (core_of p).phases (loops_round rounds) block) where
    same_table : plan.table ≡ table_known (known_in scene)
    same_table = place.table

    pub straight_sound : (f : StraightHolds p (SimpleFits (known_of p) places) (JoinFits (known_of p) places) (loops_round rounds) block) → (s : StraightSound scene around plan rounds block) × (s.of ≡ f.of)
    straight_sound f = (
      record {
        of = f.of;
        views = f.views;
        behind = f.behind;
        joins = all_simple (known_of p) places (loops_round rounds) f.of.done f.holds;
        typed = all_typed (known_in scene) places (loops_round rounds) f.of.done f.of.folds holds quiet;
        sound = record {
          first = subst (λ (table : List MemEntry). AllByRecursion (λ (c : Located). SoundAction scene around.levels.now table (IsNamedHere scene around.levels.now plan.registers rounds touched) (IsSeen scene around.levels.now) c.command) f.of.done)
              (sym same_table) (all_here scene around.levels.now rounds place.tells place.top.factors_are plan.registers touched names f.of.done holds);
          then_folds = subst (λ (table : List MemEntry). AllByRecursion (λ (c : Located). SoundAction scene around.levels.now table (IsNamedHere scene around.levels.now plan.registers rounds (λ entity. true)) (IsSeen scene around.levels.now) c.command) f.of.folds)
              (sym same_table) (folds_here scene around.levels.now rounds place.tells place.top.factors_are plan.registers f.of.folds quiet);
        };
      },
      refl,
    )
      where
        same : known_of p ≡ known_in scene
        same = known_here scene place.tells.ways

        holds : EachOf (SimpleFits (known_in scene) places) (loops_round rounds) f.of.done
        holds = subst (λ (k : Known). EachOf (SimpleFits k places) (loops_round rounds) f.of.done) same f.holds

        quiet : EachFold (JoinFits (known_in scene) places) (loops_round rounds) f.of.folds
        quiet = subst (λ (k : Known). EachFold (JoinFits k places) (loops_round rounds) f.of.folds) same f.quiet

        touched : ℕ → Bool
        touched entity = any_assigns entity (core_commands (known_in scene) f.of.done)

        spared : AreSpared touched (loops_round rounds)
        spared = spared_commands (core_commands (known_in scene) f.of.done) (loops_round rounds) (spares_less (known_in scene) f.of.done f.of.folds (loops_round rounds)
            (subst (λ (k : Known). Spares (core_commands k (f.of.done ++ f.of.folds)) (loops_round rounds)) same
            ((ready_keeps p ready).keeps (loops_round rounds) (core_commands (known_of p) (f.of.done ++ f.of.folds)) (subst (λ (b : Block). StandsIn [] (core_of p).phases (loops_round rounds) b) f.of.is stands))))

        inside : (entity : ℕ) → touched entity ≡ true → length (factors (loops_round rounds)) ≤ depth_bound (binding_in (known_in scene).bindings entity)
        inside entity t =
            touched_deep (known_in scene) (length (factors (loops_round rounds))) entity (core_commands (known_in scene) f.of.done)
            (commands_deep (known_in scene) (length (factors (loops_round rounds))) f.of.done (all_inside (known_in scene) places (loops_round rounds) f.of.done holds)) t

        names : (r : Ref) (k : Kind) → IsNamedIn (known_in scene) places (loops_round rounds) r k → IsNamedHere scene around.levels.now plan.registers rounds touched r k
        names = named_here scene around.levels.now rounds place.tells place.top.factors_are plan.registers place.told touched spared inside

    pub test_sound : (f : TestHolds p (SimpleFits (known_of p) places) (JoinFits (known_of p) places) (loops_round rounds) block) → (s : TestSound scene around plan rounds block) × (s.of ≡ f.of)
    test_sound f = (
      record {
        of = f.of;
        typed = λ t e. (test_fits (known_in scene) places (loops_round rounds) f.of.tested.command t e holds).0.1;
        sound = λ t e.
            let fits = test_fits (known_in scene) places (loops_round rounds) f.of.tested.command t e holds in
            record {
              sound = subst (λ (table : List MemEntry). IsSound (known_in scene) table (IsNamedHere scene around.levels.now plan.registers rounds (λ entity. false)) t) (sym same_table)
                  (term_mapped (known_in scene) (table_known (known_in scene)) (IsNamedIn (known_in scene) places (loops_round rounds)) (IsNamedHere scene around.levels.now plan.registers rounds (λ entity. false)) names t fits.0.0);
              kind_is = fits.1;
            };
      },
      refl,
    )
      where
        holds : Fits (known_in scene) places (loops_round rounds) f.of.tested.command
        holds = subst (λ (k : Known). Fits k places (loops_round rounds) f.of.tested.command) (known_here scene place.tells.ways) f.holds.1

        names : (r : Ref) (k : Kind) → IsNamedIn (known_in scene) places (loops_round rounds) r k → IsNamedHere scene around.levels.now plan.registers rounds (λ entity. false) r k
        names = named_here scene around.levels.now rounds place.tells place.top.factors_are plan.registers place.told (λ entity. false) (spared_test (loops_round rounds)) (λ entity t. absurd cc)

  pub blocks_sound : ReadyBlocksAreSound scene around plan rounds
  blocks_sound ready place block stands =
      elim (block_fits p ready (ready_few p ready) (ready_assigns p ready) (ready_plain p ready) (loops_round rounds) block stands) [
        | inl f ↦ inl (straight_sound ready place block stands f).0
        | inr f ↦ inr (test_sound ready place block stands f).0
      ]
