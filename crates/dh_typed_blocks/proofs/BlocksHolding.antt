-- Each block of a ready program is that of straight commands of which something holds in their loops, and behind them
-- reducers of which something else holds, or the test of such a command; for whatever holds of the body, and of the
-- commands inside a command of which it holds. What is found stands along the trace, as all laws on blocks ask.
use Rattle.std.proofs.Common.{◌≡◌, ◌⊎◌, inl, inr, ℕ, Option, List, [], ◌∷◌, ◌++◌, refl, ◌∙◌, ap, subst}
use Rattle.std.specs.List.{AllByRecursion}
use Rattle.dh_base.specs.declared.places.Place.{Place}
use Rattle.dh_value.specs.declared.kinds.Kind.{Kind}
use Rattle.dh_tree.specs.declared.trees.expressions.Ref.{Ref}
use Rattle.dh_tree.specs.PlainTrees.{Placed, Unrolled, Term, Action, action, ActionForm, blocks, decides, repeats, counts, MaybeAction, Groups, Program}
use Rattle.dh_tree.specs.Ready.{IsReady}
use Rattle.dh_meaning.specs.Core.{Turning}
use Rattle.dh_meaning.specs.CoreOf.{action_form_of, known_of, core_commands, core_of, core_test}
use Rattle.dh_meaning.specs.Effects.{Block, commands, tests}
use Rattle.dh_meaning.specs.Paths.{paths_in}
use Rattle.dh_meaning.specs.Phases.{Located, turn_count, phases_of}
use Rattle.dh_meaning.specs.Sites.{Around, nothing_around}
use Rattle.dh_meets.specs.Charges.{loop_factors}
use Rattle.dh_meets.specs.SourceEvents.{SourceEvent, trace}
use Rattle.dh_sound.specs.Blocks.{factors, StandsIn}
use Rattle.dh_sound.specs.BlocksOfPhases.{OfStraight, OfTest}
use Rattle.dh_sound.specs.LoopsMatch.{unrolled_loops, EachMatches}
use Rattle.dh_sound.specs.PhaseFacts.{HasStraight, HasTest}
use Rattle.dh_sound.specs.SimpleForms.{AreFolds, IsFold, IsFoldForm}
use Rattle.dh_sound.specs.Trails.{StandsBehind, of_located}
use Rattle.dh_sound.specs.ViewTrails.{FollowsViews, StandsViews}
use Rattle.dh_sound.proofs.BlocksOfPhases.{straight_by, tested_along, own_around}
use Rattle.dh_sound.proofs.Folds.{less_by}
use Rattle.dh_sound.proofs.LoopsMatch.{match_factors, loops_by, EachInside, ListInside, action_inside}
use Rattle.dh_sound.proofs.NamedPrograms.{ready_named}
use Rattle.dh_sound.proofs.Trails.{Tops, TopsBy, follows_plain, phases_stand, tops_so}
use Rattle.dh_sound.proofs.ViewsBefore.{stands_behind}
use Rattle.dh_typed_blocks.specs.SoundBlocks.{IsBehindViews}
use Rattle.dh_typed_blocks.proofs.PhasesHolding.{EachGroup, OfOther, OtherOnlyFolds, EachOf, EachFold, IsReducer, IsSplit, ListSplit, inside, Holding, body_holds, body_splits}

-- each stands behind its views
each_behind : (p : Program) (r : Around) (before part : List SourceEvent) (cs : List Located) → FollowsViews p r before part cs → AllByRecursion (IsBehindViews p) cs
each_behind p r before part [] h = tt
each_behind p r before part (c ∷ cs) h = (
  (h.1.1.1.0.depth, (h.1.1.1.0.first, (h.1.1.1.0.seen.own, h.1.1.1.0.behind))),
  each_behind p r ((before ++ h.0) ++ of_located c) h.1.0 cs h.1.1.1.1,
)

as_fold : (a : Action) → IsFoldForm (action_form_of a) → IsFold a
as_fold (action id place form) h = h

module _ (p : Program) (P : List Turning → Action → Type 0) (F : List Turning → ActionForm → Type 0) where
  -- straight commands of which it holds
  pub record StraightHolds (loops : List Turning) (block : Block) : Type 0 where
    pub of : OfStraight p loops block
    pub views : FollowsViews p of.round [] (trace p) of.done
    pub behind : AllByRecursion (IsBehindViews p) (of.done ++ of.folds)
    pub holds : EachOf P loops of.done
    pub quiet : EachFold F loops of.folds

  pub record TestHolds (loops : List Turning) (block : Block) : Type 0 where
    pub of : OfTest p loops block
    pub holds : P loops of.tested.command

  -- reducers of which it holds are those that join copies
  module _ (is_fold : (loops : List Turning) (form : ActionForm) → IsReducer F loops form → IsFoldForm form) where
    are_folds : (loops : List Turning) (cs : List Located) → EachFold F loops cs → AreFolds cs
    are_folds loops [] h = tt
    are_folds loops (c ∷ cs) h = (as_fold c.command (is_fold loops (action_form_of c.command) h.0), are_folds loops cs h.1)

    module _ (ready : IsReady p)
        (of_blocks : (d : List Turning) (id : ℕ) (place : Place) (body : Groups) → P d (action id place (blocks body)) → EachGroup P d body)
        (of_choices : (d : List Turning) (id : ℕ) (place : Place) (test : Term) (chosen : Action) (other : MaybeAction) → P d (action id place (decides test chosen other)) → P d chosen × OfOther P d other)
        (of_repeats : (d : List Turning) (id : ℕ) (place : Place) (test : Term) (body : Action) → P d (action id place (repeats test body)) → P d body)
        (of_counts : (d : List Turning) (id : ℕ) (place : Place) (iterator : Ref) (declared : Option Kind) (low high : Placed) (factor : Unrolled) (body : Action) (combine : MaybeAction) (combine_place : Place)
        → P d (action id place (counts iterator declared low high factor body combine combine_place))
        → P (inside (known_of p) P F d (turn_count low.value high.value factor.value) (counts iterator declared low high factor body combine combine_place)) body
        × OtherOnlyFolds F (inside (known_of p) P F d (turn_count low.value high.value factor.value) (counts iterator declared low high factor body combine combine_place)) combine)
        (holds : P [] p.body) where
      behind_views : TopsBy (λ round es c. StandsViews p round es c) nothing_around [] (trace p) (phases_of p)
      behind_views = phases_stand p ready.of_text.first ready.of_text.numbered (ready_named p ready) (stands_behind p ready)

      tops : Tops nothing_around [] (trace p) (phases_of p)
      tops = tops_so (λ round es c. StandsViews p round es c) (λ round es c. StandsBehind round es c) (λ round es c s. s.stands) nothing_around [] (trace p) (phases_of p) behind_views

      -- straight commands that stand in these loops, split so
      pub straight_of : (loops : List Turning) (block : Block) (cs : List Located) → block ≡ commands (core_commands (known_of p) cs) → HasStraight (phases_of p) cs → EachInside (known_of p) (unrolled_loops loops) cs
          → (split : IsSplit (known_of p) P F loops cs) → (f : StraightHolds loops block) × (cs ≡ f.of.done ++ f.of.folds)
      straight_of loops block cs is has matched split =
          let w = loops_by (known_of p) (λ round es c. StandsViews p round es c) (λ round es c x. x.stands.around) [] (trace p) (unrolled_loops loops) cs
          (straight_by (λ round es c. StandsViews p round es c) [] (trace p) nothing_around (phases_of p) cs behind_views has) matched in
          let same : factors loops ≡ loop_factors w.0.loops = match_factors (known_of p) loops w.0.loops w.1.1 in
          let views : FollowsViews p w.0 [] (trace p) split.done =
          less_by (λ round es c. StandsViews p round es c) w.0 [] (trace p) split.done split.folds (subst (λ (x : List Located). FollowsViews p w.0 [] (trace p) x) split.is w.1.0) in (
            record {
              of = record {
                done = split.done;
                folds = split.folds;
                quiet = are_folds loops split.folds split.quiet;
                is = is ∙ ap (λ (x : List Located). commands (core_commands (known_of p) x)) split.is;
                has = subst (λ (x : List Located). HasStraight (phases_of p) x) split.is has;
                round = w.0;
                follows = follows_plain p w.0 [] (trace p) split.done views;
                inside = same;
                paths = ap paths_in same;
              };
              views = views;
              behind = subst (λ (x : List Located). AllByRecursion (IsBehindViews p) x) split.is (each_behind p w.0 [] (trace p) cs w.1.0);
              holds = split.holds;
              quiet = split.quiet;
            },
            split.is,
          )

      -- and a command whose test is evaluated
      pub tested_of : (loops : List Turning) (block : Block) (c : Located) → block ≡ tests (core_test (known_of p) c) → HasTest (phases_of p) c → EachMatches (known_of p) (unrolled_loops loops) c.around.loops → P loops c.command → (f : TestHolds loops block) × (f.of.tested ≡ c)
      tested_of loops block c is has matched h =
          let f = own_around [] (trace p) c (tested_along [] (trace p) nothing_around (phases_of p) c tops has) in
          let same : factors loops ≡ loop_factors c.around.loops = match_factors (known_of p) loops c.around.loops matched in
          (record { of = record { tested = c; is = is; has = has; follows = f; inside = same; paths = ap paths_in same }; holds = h }, refl)

      -- each block is one of these
      pub block_holds : (loops : List Turning) (block : Block) → StandsIn [] (core_of p).phases loops block → StraightHolds loops block ⊎ TestHolds loops block
      block_holds loops block s = by (body_holds (known_of p) P F of_blocks of_choices of_repeats of_counts p.body loops block (ready_named p ready) holds s)
        where
          by : Holding (known_of p) P F of_blocks of_choices of_repeats of_counts (HasStraight (phases_of p)) (HasTest (phases_of p)) loops block → StraightHolds loops block ⊎ TestHolds loops block
          by (inl (cs, (is, (has, (matched, split))))) = inl (straight_of loops block cs is has matched split).0
          by (inr (c, (is, (has, (matched, h))))) = inr (tested_of loops block c is has matched h).0

      -- the phases of the body, as they are split, and the loops that stand round their commands in the source
      pub program_split : ListSplit (known_of p) P F [] (phases_of p)
      program_split = body_splits (known_of p) P F of_blocks of_choices of_repeats of_counts p.body holds

      pub program_inside : ListInside (known_of p) [] (phases_of p)
      program_inside = action_inside (known_of p) nothing_around [] 0 p.body (ready_named p ready) tt
