-- Phases that stand in a program's: so do their parts.
use Rattle.std.proofs.Common.{inl, inr, ℕ, List, [], ◌∷◌, ◌++◌}
use Rattle.dh_tree.specs.PlainTrees.{Program}
use Rattle.dh_meaning.specs.Core.{Turning}
use Rattle.dh_meaning.specs.CoreOf.{Known, action_form_of, turning_of}
use Rattle.dh_meaning.specs.Phases.{Located, Phase, turns, repeated, decided, Phases, phase, of_list, phases_of}
use Rattle.dh_gathering.specs.PhasesInLoops.{StraightOf, StraightsInLoops, TestOf, TestsInLoops}
use Rattle.dh_gathering.specs.PlacedPhases.{ArePlacedPhases, IsPlacedPhase}

module _ (known : Known) (p : Program) (round : List Turning) where
  pub placed_first : (q : Phase) (qs : Phases) → ArePlacedPhases known p round (phase q qs) → IsPlacedPhase known p round q
  placed_first q qs h = record { straights = λ loops cs s. h.straights loops cs (inl s); tests = λ loops c s. h.tests loops c (inl s) }

  pub placed_rest : (q : Phase) (qs : Phases) → ArePlacedPhases known p round (phase q qs) → ArePlacedPhases known p round qs
  placed_rest q qs h = record { straights = λ loops cs s. h.straights loops cs (inr s); tests = λ loops c s. h.tests loops c (inr s) }

  pub placed_turns : (loop : Located) (count : ℕ) (body : Phases) → IsPlacedPhase known p round (turns loop count body) → ArePlacedPhases known p (round ++ turning_of known count (action_form_of loop.command) ∷ []) body
  placed_turns loop count body h = record { straights = λ loops cs s. h.straights loops cs s; tests = λ loops c s. h.tests loops c s }

  pub placed_loop : (loop : Located) (body : Phases) → IsPlacedPhase known p round (repeated loop body) → ArePlacedPhases known p round body
  placed_loop loop body h = record { straights = λ loops cs s. h.straights loops cs s; tests = λ loops c s. h.tests loops c (inr s) }

  pub placed_chosen : (choice : Located) (chosen other : Phases) → IsPlacedPhase known p round (decided choice chosen other) → ArePlacedPhases known p round chosen
  placed_chosen choice chosen other h = record { straights = λ loops cs s. h.straights loops cs (inl s); tests = λ loops c s. h.tests loops c (inr (inl s)) }

  pub placed_other : (choice : Located) (chosen other : Phases) → IsPlacedPhase known p round (decided choice chosen other) → ArePlacedPhases known p round other
  placed_other choice chosen other h = record { straights = λ loops cs s. h.straights loops cs (inr s); tests = λ loops c s. h.tests loops c (inr (inr s)) }

module _ (known : Known) (round : List Turning) where
  straight_listed : (qs : List Phase) (loops : List Turning) (cs : List Located) → StraightsInLoops known round (of_list qs) loops cs → StraightOf known round qs loops cs
  straight_listed [] loops cs h = absurd h
  straight_listed (q ∷ qs) loops cs (inl h) = inl h
  straight_listed (q ∷ qs) loops cs (inr h) = inr (straight_listed qs loops cs h)

  test_listed : (qs : List Phase) (loops : List Turning) (c : Located) → TestsInLoops known round (of_list qs) loops c → TestOf known round qs loops c
  test_listed [] loops c h = absurd h
  test_listed (q ∷ qs) loops c (inl h) = inl h
  test_listed (q ∷ qs) loops c (inr h) = inr (test_listed qs loops c h)

pub all_placed : (known : Known) (p : Program) → ArePlacedPhases known p [] (of_list (phases_of p))
all_placed known p = record { straights = λ loops cs s. straight_listed known [] (phases_of p) loops cs s; tests = λ loops c s. test_listed known [] (phases_of p) loops c s }
