-- Which blocks a program has, and in which loops they stand; at which paths they are done; and what it is for the
-- iterators of these loops to be in a turn.
use Rattle.std.specs.Prelude.{◌≡◌, ◌⊎◌, ℕ, ◌<◌, nat_lt, if◌then◌else◌, List, [], ◌∷◌, ◌++◌, pos}
use Rattle.dh_meaning.specs.Paths.{Path, paths_in, IsPathAmong}
use Rattle.dh_meaning.specs.Core.{Turning, CorePhase, straightly, turning, looping, choosing, CorePhases, no_core_phases, phase_and}
use Rattle.dh_meaning.specs.Effects.{Variables, Block, commands, tests}
use Rattle.dh_meaning.specs.Runs.{iterator_value}

-- the factors of the unrolled among these loops
abbrev pub factors : List Turning → List ℕ
factors [] = []
factors (l ∷ ls) = if nat_lt 1 l.factor then l.factor ∷ factors ls else factors ls

-- the paths inside loops that stand one in the other
abbrev pub paths_inside : List Turning → List Path
paths_inside loops = paths_in (factors loops)

abbrev mutual
  -- a block stands in these phases, which stand in loops; with the loops round the block from the outside
  pub StandsIn : (round : List Turning) → CorePhases → (loops : List Turning) → Block → Type 0
  StandsIn round no_core_phases loops b = ⊥
  StandsIn round (phase_and p ps) loops b = StandsInPhase round p loops b ⊎ StandsIn round ps loops b

  pub StandsInPhase : (round : List Turning) → CorePhase → (loops : List Turning) → Block → Type 0
  StandsInPhase round (straightly cs) loops b = (loops ≡ round) × (b ≡ commands cs)
  StandsInPhase round (turning loop body) loops b = StandsIn (round ++ loop ∷ []) body loops b
  StandsInPhase round (looping test body) loops b = ((loops ≡ round) × (b ≡ tests test)) ⊎ StandsIn round body loops b
  StandsInPhase round (choosing test chosen other) loops b =
      ((loops ≡ round) × (b ≡ tests test)) ⊎ (StandsIn round chosen loops b ⊎ StandsIn round other loops b)

-- the iterator of the last of these loops has at each path inside them its value in one turn
pub record InTurn (inside : List Turning) (loop : Turning) (variables : Variables) : Type 0 where
  pub turn : ℕ
  pub below : turn < loop.count
  pub holds : (path : Path) → IsPathAmong path (paths_inside inside) → variables loop.iterator path ≡ pos (iterator_value loop turn path)

-- each of these loops is in a turn, inside those before it
abbrev pub AreInTurn : (round loops : List Turning) → Variables → Type 0
AreInTurn round [] variables = Unit {0}
AreInTurn round (loop ∷ loops) variables = InTurn (round ++ loop ∷ []) loop variables × AreInTurn (round ++ loop ∷ []) loops variables
