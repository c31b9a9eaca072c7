-- What a block of a phase does at one path, as the source tells it: each event is that of an access of the trace that
-- the phase makes, found by variables that differ from those at the beginning only where the block assigns, and a
-- read that shares an earlier one leads where that one led, which was made at the same path.
use Rattle.std.proofs.Common.{◌≡◌, ℕ, ◌<◌, Bool, true, false, List, [], ◌∷◌, ◌++◌, refl, sym, ◌∙◌, subst, arith, inl}
use Rattle.std.proofs.lemmas.List.{append-nil}
use Rattle.dh_tree.specs.PlainTrees.{Program}
use Rattle.dh_meaning.specs.Core.{no_commands}
use Rattle.dh_meaning.specs.CoreOf.{Known, known_of, core_commands, core_test}
use Rattle.dh_meaning.specs.Effects.{Begun, Variables, Event, term_events}
use Rattle.dh_meaning.specs.Levels.{any_assigns}
use Rattle.dh_meaning.specs.OnePhase.{in_one_phase, any_makes, test_makes}
use Rattle.dh_meaning.specs.Paths.{Path}
use Rattle.dh_meaning.specs.Phases.{Located, phases_of, idle_phases_of}
use Rattle.dh_meaning.specs.Sites.{Around}
use Rattle.dh_meets.specs.SourceEvents.{trace}
use Rattle.dh_sound.specs.PhaseFacts.{HasStraight, HasTest}
use Rattle.dh_sound.specs.SimpleForms.{AreFolds}
use Rattle.dh_sound.proofs.BlockWalks.{walk_located, walk_test}
use Rattle.dh_sound.proofs.Folds.{makes_more, makes_less}
use Rattle.dh_sound.proofs.KnownReads.{knows_none}
use Rattle.dh_sound.proofs.OnePath.{all_made_by}
use Rattle.dh_carried.proofs.Pigeons.{Has}
use Rattle.dh_sound.proofs.SamePhase.{straight_has_both, test_has_both}
use Rattle.dh_sound.proofs.Slices.{straight_either, test_either}
use Rattle.dh_sound.proofs.StraightWalks.{Done}
use Rattle.dh_sound.proofs.TermWalks.{IsGood}
use Rattle.dh_sound.specs.AssignsInside.{AllAssignInside}
use Rattle.dh_sound.specs.Trails.{Follows}
use Rattle.dh_sound.specs.ViewTrails.{FollowsViews}

none_before : {A : Type 0} (k : ℕ) → k < 0 → A
none_before k l = let none : ⊥ = omega (arith, l) in elim none [ ]

-- The commands of a Straight phase, without the reducers behind them.
module _ (p : Program) (b : Begun) (path : Path) (cs folds : List Located) (quiet : AreFolds folds) (inside : HasStraight (phases_of p) (cs ++ folds)) (v : Variables) where
  abbrev known : Known
  known = known_of p

  abbrev pub phase_makes : ℕ → Bool
  phase_makes k = any_makes k cs

  abbrev pub phase_touches : ℕ → Bool
  phase_touches e = any_assigns e (core_commands known cs)

  pub phase_shares : (j k : ℕ) → in_one_phase p j k ≡ true → phase_makes k ≡ true → phase_makes j ≡ true
  phase_shares j k e h =
      makes_less j cs folds quiet (straight_has_both p (cs ++ folds) j k (straight_either (phases_of p) (idle_phases_of p) (cs ++ folds) (inl inside)) (makes_more k cs folds h) e)

  abbrev pub IsGoodHere : Around → List Event → Event → Type 0
  IsGoodHere r es ev = IsGood p b known path phase_makes phase_shares v phase_touches r es ev

  phase_done : (depth : ℕ) → AllAssignInside known depth cs → (r : Around) → FollowsViews p r [] (trace p) cs → Done p b path phase_makes phase_shares v phase_touches r [] (trace p) v [] (core_commands known cs) no_commands
  phase_done depth all r f =
      walk_located p b path phase_makes phase_shares v phase_touches depth r [] (trace p) v [] 0 cs all f (λ k w. refl) (λ e h. h)
      (record {
        after = [];
        cut = sym (append-nil (trace p));
        number = refl;
        near = λ e q h. refl;
        knows = knows_none b known path phase_makes r [] v (λ k l h. none_before k l);
      })

  -- each event that they make
  pub phase_good : (depth : ℕ) → AllAssignInside known depth cs → (r : Around) → FollowsViews p r [] (trace p) cs → (ev : Event) → Has ev (all_made_by b path (core_commands known cs) v) → IsGoodHere r (all_made_by b path (core_commands known cs) v) ev
  phase_good depth all r f ev h =
      let d = phase_done depth all r f in
      let made = d.made_is ∙ append-nil d.made in
      subst (λ (es : List Event). IsGoodHere r es ev) (sym made) (d.steps.good ev (subst (λ (es : List Event). Has ev es) made h))

-- A test.
module _ (p : Program) (b : Begun) (path : Path) (c : Located) (inside : HasTest (phases_of p) c) (v : Variables) where
  abbrev known_there : Known
  known_there = known_of p

  abbrev pub own_makes : ℕ → Bool
  own_makes k = test_makes k c

  abbrev pub nothing_touched : ℕ → Bool
  nothing_touched e = false

  pub test_shares : (j k : ℕ) → in_one_phase p j k ≡ true → own_makes k ≡ true → own_makes j ≡ true
  test_shares j k e h = test_has_both p c j k (test_either (phases_of p) (idle_phases_of p) c (inl inside)) h e

  abbrev pub IsGoodTest : List Event → Event → Type 0
  IsGoodTest es ev = IsGood p b known_there path own_makes test_shares v nothing_touched c.around es ev

  pub test_good : Follows c.around [] (trace p) (c ∷ []) → (ev : Event) → Has ev (term_events b v path (core_test known_there c)) → IsGoodTest (term_events b v path (core_test known_there c)) ev
  test_good f =
      (walk_test p b path own_makes test_shares v nothing_touched [] (trace p) v [] 0 c f (λ k w. refl)
      (record {
        after = [];
        cut = sym (append-nil (trace p));
        number = refl;
        near = λ e q h. refl;
        knows = knows_none b known_there path own_makes c.around [] v (λ k l h. none_before k l);
      })).steps.good
