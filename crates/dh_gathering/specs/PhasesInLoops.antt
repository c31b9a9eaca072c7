-- Which straight phases and which tests stand in phases at any depth, and in which loops.
use Rattle.std.specs.Prelude.{◌≡◌, ◌⊎◌, List, [], ◌∷◌, ◌++◌}
use Rattle.dh_meaning.specs.Core.{Turning}
use Rattle.dh_meaning.specs.CoreOf.{Known, action_form_of, turning_of}
use Rattle.dh_meaning.specs.Phases.{Located, Phase, straight, turns, repeated, decided, Phases, no_phases, phase}

module _ (known : Known) where
  abbrev mutual
    -- A straight phase of a phase, at any depth, has just these commands; it stands in these loops, where the phase stands
    -- in those of `round`.
    pub StraightInLoops : (round : List Turning) → Phase → (loops : List Turning) → List Located → Type 0
    StraightInLoops round (straight ds) loops cs = (loops ≡ round) × (ds ≡ cs)
    StraightInLoops round (turns loop count body) loops cs = StraightsInLoops (round ++ turning_of known count (action_form_of loop.command) ∷ []) body loops cs
    StraightInLoops round (repeated loop body) loops cs = StraightsInLoops round body loops cs
    StraightInLoops round (decided choice chosen other) loops cs = StraightsInLoops round chosen loops cs ⊎ StraightsInLoops round other loops cs

    pub StraightsInLoops : (round : List Turning) → Phases → (loops : List Turning) → List Located → Type 0
    StraightsInLoops round no_phases loops cs = ⊥
    StraightsInLoops round (phase p ps) loops cs = StraightInLoops round p loops cs ⊎ StraightsInLoops round ps loops cs

  abbrev pub StraightOf : (round : List Turning) → List Phase → (loops : List Turning) → List Located → Type 0
  StraightOf round [] loops cs = ⊥
  StraightOf round (p ∷ ps) loops cs = StraightInLoops round p loops cs ⊎ StraightOf round ps loops cs

  abbrev mutual
    -- and a phase of it has this command, whose test it evaluates
    pub TestInLoops : (round : List Turning) → Phase → (loops : List Turning) → Located → Type 0
    TestInLoops round (straight ds) loops c = ⊥
    TestInLoops round (turns loop count body) loops c = TestsInLoops (round ++ turning_of known count (action_form_of loop.command) ∷ []) body loops c
    TestInLoops round (repeated loop body) loops c = ((loops ≡ round) × (loop ≡ c)) ⊎ TestsInLoops round body loops c
    TestInLoops round (decided choice chosen other) loops c = ((loops ≡ round) × (choice ≡ c)) ⊎ (TestsInLoops round chosen loops c ⊎ TestsInLoops round other loops c)

    pub TestsInLoops : (round : List Turning) → Phases → (loops : List Turning) → Located → Type 0
    TestsInLoops round no_phases loops c = ⊥
    TestsInLoops round (phase p ps) loops c = TestInLoops round p loops c ⊎ TestsInLoops round ps loops c

  abbrev pub TestOf : (round : List Turning) → List Phase → (loops : List Turning) → Located → Type 0
  TestOf round [] loops c = ⊥
  TestOf round (p ∷ ps) loops c = TestInLoops round p loops c ⊎ TestOf round ps loops c
