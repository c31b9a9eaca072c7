-- Straight phases and tests that stand in loops: they are those of the phases without the loops, and the blocks of the core
-- in these loops. And what is told of all phases holds of each in its loops.
use Rattle.std.proofs.Common.{◌≡◌, inl, inr, List, [], ◌∷◌, ◌++◌, refl, sym, subst}
use Rattle.dh_tree.specs.PlainTrees.{Action, ActionForm}
use Rattle.dh_meaning.specs.Core.{Turning}
use Rattle.dh_meaning.specs.CoreOf.{Known, core_commands, core_phase, core_phases, core_test, action_form_of, turning_of}
use Rattle.dh_meaning.specs.Effects.{commands, tests}
use Rattle.dh_meaning.specs.Phases.{Located, Phase, straight, turns, repeated, decided, Phases, no_phases, phase, of_list}
use Rattle.dh_sound.specs.Blocks.{StandsIn, StandsInPhase}
use Rattle.dh_sound.specs.LoopsMatch.{unrolled_loops, EachMatches}
use Rattle.dh_sound.specs.PhaseFacts.{HasStraightIn, HaveStraight, HasStraight, HasTestIn, HaveTest, HasTest}
use Rattle.dh_sound.proofs.LoopsMatch.{unrolled_both, EachInside, IsInside, AreInside, ListInside}
use Rattle.dh_typed_blocks.proofs.PhasesHolding.{IsSplit, PhaseSplit, AreSplit, ListSplit, inside, phases_split}
use Rattle.dh_gathering.specs.PhasesInLoops.{StraightInLoops, StraightsInLoops, StraightOf, TestInLoops, TestsInLoops, TestOf}

module _ (known : Known) where
  -- Without the loops.

  mutual
    straight_in : (p : Phase) (round loops : List Turning) (cs : List Located) → StraightInLoops known round p loops cs → HasStraightIn p cs
    straight_in (straight ds) round loops cs s = s.1
    straight_in (turns loop count body) round loops cs s = straights_in body (round ++ turning_of known count (action_form_of loop.command) ∷ []) loops cs s
    straight_in (repeated loop body) round loops cs s = straights_in body round loops cs s
    straight_in (decided choice chosen other) round loops cs (inl s) = inl (straights_in chosen round loops cs s)
    straight_in (decided choice chosen other) round loops cs (inr s) = inr (straights_in other round loops cs s)

    straights_in : (ps : Phases) (round loops : List Turning) (cs : List Located) → StraightsInLoops known round ps loops cs → HaveStraight ps cs
    straights_in no_phases round loops cs s = absurd s
    straights_in (phase p ps) round loops cs (inl s) = inl (straight_in p round loops cs s)
    straights_in (phase p ps) round loops cs (inr s) = inr (straights_in ps round loops cs s)

  pub straight_there : (ps : List Phase) (round loops : List Turning) (cs : List Located) → StraightOf known round ps loops cs → HasStraight ps cs
  straight_there [] round loops cs s = absurd s
  straight_there (p ∷ ps) round loops cs (inl s) = inl (straight_in p round loops cs s)
  straight_there (p ∷ ps) round loops cs (inr s) = inr (straight_there ps round loops cs s)

  mutual
    test_in : (p : Phase) (round loops : List Turning) (c : Located) → TestInLoops known round p loops c → HasTestIn p c
    test_in (straight ds) round loops c s = absurd s
    test_in (turns loop count body) round loops c s = tests_in body (round ++ turning_of known count (action_form_of loop.command) ∷ []) loops c s
    test_in (repeated loop body) round loops c (inl s) = inl s.1
    test_in (repeated loop body) round loops c (inr s) = inr (tests_in body round loops c s)
    test_in (decided choice chosen other) round loops c (inl s) = inl s.1
    test_in (decided choice chosen other) round loops c (inr (inl s)) = inr (inl (tests_in chosen round loops c s))
    test_in (decided choice chosen other) round loops c (inr (inr s)) = inr (inr (tests_in other round loops c s))

    tests_in : (ps : Phases) (round loops : List Turning) (c : Located) → TestsInLoops known round ps loops c → HaveTest ps c
    tests_in no_phases round loops c s = absurd s
    tests_in (phase p ps) round loops c (inl s) = inl (test_in p round loops c s)
    tests_in (phase p ps) round loops c (inr s) = inr (tests_in ps round loops c s)

  pub test_there : (ps : List Phase) (round loops : List Turning) (c : Located) → TestOf known round ps loops c → HasTest ps c
  test_there [] round loops c s = absurd s
  test_there (p ∷ ps) round loops c (inl s) = inl (test_in p round loops c s)
  test_there (p ∷ ps) round loops c (inr s) = inr (test_there ps round loops c s)

  -- As they are run.

  mutual
    straight_stands : (p : Phase) (round loops : List Turning) (cs : List Located) → StraightInLoops known round p loops cs → StandsInPhase round (core_phase known p) loops (commands (core_commands known cs))
    straight_stands (straight ds) round loops cs s = (s.0, same cs s.1)
      where
        same : (cs : List Located) → ds ≡ cs → commands (core_commands known cs) ≡ commands (core_commands known ds)
        same cs e = subst (λ (x : List Located). commands (core_commands known x) ≡ commands (core_commands known ds)) e refl
    straight_stands (turns loop count body) round loops cs s = straights_stand body (round ++ turning_of known count (action_form_of loop.command) ∷ []) loops cs s
    straight_stands (repeated loop body) round loops cs s = inr (straights_stand body round loops cs s)
    straight_stands (decided choice chosen other) round loops cs (inl s) = inr (inl (straights_stand chosen round loops cs s))
    straight_stands (decided choice chosen other) round loops cs (inr s) = inr (inr (straights_stand other round loops cs s))

    straights_stand : (ps : Phases) (round loops : List Turning) (cs : List Located) → StraightsInLoops known round ps loops cs → StandsIn round (core_phases known ps) loops (commands (core_commands known cs))
    straights_stand no_phases round loops cs s = absurd s
    straights_stand (phase p ps) round loops cs (inl s) = inl (straight_stands p round loops cs s)
    straights_stand (phase p ps) round loops cs (inr s) = inr (straights_stand ps round loops cs s)

  pub straight_run : (ps : List Phase) (round loops : List Turning) (cs : List Located) → StraightOf known round ps loops cs → StandsIn round (core_phases known (of_list ps)) loops (commands (core_commands known cs))
  straight_run [] round loops cs s = absurd s
  straight_run (p ∷ ps) round loops cs (inl s) = inl (straight_stands p round loops cs s)
  straight_run (p ∷ ps) round loops cs (inr s) = inr (straight_run ps round loops cs s)

  test_at : (round loops : List Turning) (d c : Located) → (loops ≡ round) × (d ≡ c) → (loops ≡ round) × (tests (core_test known c) ≡ tests (core_test known d))
  test_at round loops d c s = (s.0, subst (λ (x : Located). tests (core_test known x) ≡ tests (core_test known d)) s.1 refl)

  mutual
    test_stands : (p : Phase) (round loops : List Turning) (c : Located) → TestInLoops known round p loops c → StandsInPhase round (core_phase known p) loops (tests (core_test known c))
    test_stands (straight ds) round loops c s = absurd s
    test_stands (turns loop count body) round loops c s = tests_stand body (round ++ turning_of known count (action_form_of loop.command) ∷ []) loops c s
    test_stands (repeated loop body) round loops c (inl s) = inl (test_at round loops loop c s)
    test_stands (repeated loop body) round loops c (inr s) = inr (tests_stand body round loops c s)
    test_stands (decided choice chosen other) round loops c (inl s) = inl (test_at round loops choice c s)
    test_stands (decided choice chosen other) round loops c (inr (inl s)) = inr (inl (tests_stand chosen round loops c s))
    test_stands (decided choice chosen other) round loops c (inr (inr s)) = inr (inr (tests_stand other round loops c s))

    tests_stand : (ps : Phases) (round loops : List Turning) (c : Located) → TestsInLoops known round ps loops c → StandsIn round (core_phases known ps) loops (tests (core_test known c))
    tests_stand no_phases round loops c s = absurd s
    tests_stand (phase p ps) round loops c (inl s) = inl (test_stands p round loops c s)
    tests_stand (phase p ps) round loops c (inr s) = inr (tests_stand ps round loops c s)

  pub test_run : (ps : List Phase) (round loops : List Turning) (c : Located) → TestOf known round ps loops c → StandsIn round (core_phases known (of_list ps)) loops (tests (core_test known c))
  test_run [] round loops c s = absurd s
  test_run (p ∷ ps) round loops c (inl s) = inl (test_stands p round loops c s)
  test_run (p ∷ ps) round loops c (inr s) = inr (test_run ps round loops c s)

-- What is told of all phases.

module _ (known : Known) (P : List Turning → Action → Type 0) (F : List Turning → ActionForm → Type 0) where
  abbrev pub HeldStraight : List Turning → List Located → Type 0
  HeldStraight loops cs = EachInside known (unrolled_loops loops) cs × IsSplit known P F loops cs

  abbrev pub HeldTest : List Turning → Located → Type 0
  HeldTest loops c = EachMatches known (unrolled_loops loops) c.around.loops × P loops c.command

  mutual
    straight_held : (p : Phase) (round loops : List Turning) (cs : List Located) → IsInside known (unrolled_loops round) p → PhaseSplit known P F round p → StraightInLoops known round p loops cs → HeldStraight loops cs
    straight_held (straight ds) round loops cs m h s = subst (λ (x : List Located). HeldStraight loops x) s.1 (subst (λ (l : List Turning). HeldStraight l ds) (sym s.0) (m, h))
    straight_held (turns loop count body) round loops cs m h s =
        straights_held body (inside known P F round count (action_form_of loop.command)) loops cs (subst (λ (ts : List Turning). AreInside known ts body) (sym (unrolled_both round (turning_of known count (action_form_of loop.command) ∷ []))) m) h s
    straight_held (repeated loop body) round loops cs m h s = straights_held body round loops cs m.1 (phases_split known P F round body h.1) s
    straight_held (decided choice chosen other) round loops cs m h (inl s) = straights_held chosen round loops cs m.1.0 (phases_split known P F round chosen h.1.0) s
    straight_held (decided choice chosen other) round loops cs m h (inr s) = straights_held other round loops cs m.1.1 (phases_split known P F round other h.1.1) s

    straights_held : (ps : Phases) (round loops : List Turning) (cs : List Located) → AreInside known (unrolled_loops round) ps → AreSplit known P F round ps → StraightsInLoops known round ps loops cs → HeldStraight loops cs
    straights_held no_phases round loops cs m h s = absurd s
    straights_held (phase p ps) round loops cs m h (inl s) = straight_held p round loops cs m.0 h.0 s
    straights_held (phase p ps) round loops cs m h (inr s) = straights_held ps round loops cs m.1 h.1 s

  pub straight_of_held : (ps : List Phase) (round loops : List Turning) (cs : List Located) → ListInside known (unrolled_loops round) ps → ListSplit known P F round ps → StraightOf known round ps loops cs → HeldStraight loops cs
  straight_of_held [] round loops cs m h s = absurd s
  straight_of_held (p ∷ ps) round loops cs m h (inl s) = straight_held p round loops cs m.0 h.0 s
  straight_of_held (p ∷ ps) round loops cs m h (inr s) = straight_of_held ps round loops cs m.1 h.1 s

  test_here : (round loops : List Turning) (d c : Located) → (loops ≡ round) × (d ≡ c) → HeldTest round d → HeldTest loops c
  test_here round loops d c s h = subst (λ (x : Located). HeldTest loops x) s.1 (subst (λ (l : List Turning). HeldTest l d) (sym s.0) h)

  mutual
    test_held : (p : Phase) (round loops : List Turning) (c : Located) → IsInside known (unrolled_loops round) p → PhaseSplit known P F round p → TestInLoops known round p loops c → HeldTest loops c
    test_held (straight ds) round loops c m h s = absurd s
    test_held (turns loop count body) round loops c m h s =
        tests_held body (inside known P F round count (action_form_of loop.command)) loops c (subst (λ (ts : List Turning). AreInside known ts body) (sym (unrolled_both round (turning_of known count (action_form_of loop.command) ∷ []))) m) h s
    test_held (repeated loop body) round loops c m h (inl s) = test_here round loops loop c s (m.0, h.0)
    test_held (repeated loop body) round loops c m h (inr s) = tests_held body round loops c m.1 (phases_split known P F round body h.1) s
    test_held (decided choice chosen other) round loops c m h (inl s) = test_here round loops choice c s (m.0, h.0)
    test_held (decided choice chosen other) round loops c m h (inr (inl s)) = tests_held chosen round loops c m.1.0 (phases_split known P F round chosen h.1.0) s
    test_held (decided choice chosen other) round loops c m h (inr (inr s)) = tests_held other round loops c m.1.1 (phases_split known P F round other h.1.1) s

    tests_held : (ps : Phases) (round loops : List Turning) (c : Located) → AreInside known (unrolled_loops round) ps → AreSplit known P F round ps → TestsInLoops known round ps loops c → HeldTest loops c
    tests_held no_phases round loops c m h s = absurd s
    tests_held (phase p ps) round loops c m h (inl s) = test_held p round loops c m.0 h.0 s
    tests_held (phase p ps) round loops c m h (inr s) = tests_held ps round loops c m.1 h.1 s

  pub test_of_held : (ps : List Phase) (round loops : List Turning) (c : Located) → ListInside known (unrolled_loops round) ps → ListSplit known P F round ps → TestOf known round ps loops c → HeldTest loops c
  test_of_held [] round loops c m h s = absurd s
  test_of_held (p ∷ ps) round loops c m h (inl s) = test_held p round loops c m.0 h.0 s
  test_of_held (p ∷ ps) round loops c m h (inr s) = test_of_held ps round loops c m.1 h.1 s
