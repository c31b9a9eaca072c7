-- What it is for loops to be in a turn, as an expression sees it at a path inside all of them: it finds the iterator of
-- each loop at the part of the path that leads into this loop, with the value of the turn and of the path's copy.
-- The turn of a loop is one for all its copies.
use Rattle.std.specs.Prelude.{◌≡◌, ℕ, ◌<◌, ◌≤◌, List, [], ◌∷◌, ◌++◌, length, take, pos}
use Rattle.dh_meaning.specs.Paths.{Path, IsPathAmong}
use Rattle.dh_meaning.specs.Core.{Turning, CoreProgram}
use Rattle.dh_meaning.specs.Effects.{Variables, Block}
use Rattle.dh_meaning.specs.Runs.{last_copy, iterator_value}
use Rattle.dh_sound.specs.Blocks.{factors, StandsIn}

-- the depth of each of these loops is the number of the unrolled among it and the loops round it
abbrev pub HaveDepths : (round loops : List Turning) → Type 0
HaveDepths round [] = Unit {0}
HaveDepths round (loop ∷ loops) = (loop.depth ≡ length (factors (round ++ loop ∷ []))) × HaveDepths (round ++ loop ∷ []) loops

-- What a program keeps of the depths of its iterators: they are those at which names are declared.
pub record KeepsDepths (c : CoreProgram) : Type 0 where
  pub depths : (loops : List Turning) (b : Block) → StandsIn [] c.phases loops b → HaveDepths [] loops

-- the iterator of a loop at a path inside it
pub record IteratorAt (loop : Turning) (turn : ℕ) (variables : Variables) (path : Path) : Type 0 where
  pub value : variables loop.iterator (take loop.depth path) ≡ pos (iterator_value loop turn path)
  pub copy : 1 ≤ loop.factor → last_copy loop path < loop.factor

-- the turn of a loop, and its iterator at each of these paths
pub record TurnAt (loop : Turning) (variables : Variables) (paths : List Path) : Type 0 where
  pub turn : ℕ
  pub below : turn < loop.count
  pub each : (path : Path) → IsPathAmong path paths → IteratorAt loop turn variables path

abbrev pub TurnsAt : List Turning → Variables → (paths : List Path) → Type 0
TurnsAt [] variables paths = Unit {0}
TurnsAt (loop ∷ loops) variables paths = TurnAt loop variables paths × TurnsAt loops variables paths
