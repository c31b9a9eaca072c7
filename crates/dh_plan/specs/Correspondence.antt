-- How the registers of a plan stand for the variables of its program: a register for a variable at a path, and
-- for a loop one counter for the iterator at all its copies.
use Rattle.std.specs.Prelude.{◌≡◌, ℕ, ◌<◌, ◌^◌, List, [], ◌∷◌, length, map, slice_get, slice_index, Option, Some, pos}
use Rattle.dh_value.specs.declared.kinds.Kind.{Kind}
use Rattle.dh_value.specs.Words.{width_of, word_of}
use Rattle.dh_meaning.specs.Core.{Turning}
use Rattle.dh_meaning.specs.Effects.{Variables}
use Rattle.dh_meaning.specs.Paths.{Path, outer_paths}
use Rattle.dh_meaning.specs.Runs.{inner_paths, iterator_value}
use Rattle.dh_plan.specs.Blocks.{kind_at, register_word}

-- the register of a variable, by its entity, at a path; iterators have none
abbrev pub Slots : Type 0
Slots = ℕ → Path → Option ℕ

-- a register for each kind, with a value of that kind
pub record FitKinds (kinds : List Kind) (registers : List ℕ) : Type 0 where
  pub long : length registers ≡ length kinds
  pub small : (r : ℕ) → slice_index registers r < 2 ^ width_of (kind_at kinds r)

-- each variable's register holds its value, in the register's kind
abbrev pub Holding : List Kind → Slots → (registers : List ℕ) → Variables → Type 0
Holding kinds slots registers variables =
    (entity : ℕ) (path : Path) (r : ℕ) → slots entity path ≡ Some r → register_word kinds registers r ≡ word_of (kind_at kinds r) (variables entity path)

-- a loop round a block, with the register that counts its turns
pub record Round : Type 0 where
  pub loop : Turning
  pub counter : ℕ

-- the loops round a place
abbrev pub loops_round : List Round → List Turning
loops_round rounds = map (λ (r : Round). r.loop) rounds

-- the paths inside loops that stand one in the other
abbrev pub paths_within : List Path → List Round → List Path
paths_within paths [] = paths
paths_within paths (r ∷ rs) = paths_within (inner_paths paths r.loop) rs

abbrev pub paths_of_rounds : List Round → List Path
paths_of_rounds rounds = paths_within outer_paths rounds

-- A loop is in a turn of its own, and its iterator has at each of these paths the value that it has in that turn.
pub record IsCounted (paths : List Path) (r : Round) (registers : List ℕ) (variables : Variables) : Type 0 where
  pub below : slice_index registers r.counter < r.loop.count
  pub holds : (i : ℕ) (path : Path) → slice_get paths i ≡ Some path
      → variables r.loop.iterator path ≡ pos (iterator_value r.loop (slice_index registers r.counter) path)

-- so of each of these loops, inside those before it
abbrev pub AreCounted : List Path → List Round → (registers : List ℕ) → Variables → Type 0
AreCounted paths [] registers variables = Unit {0}
AreCounted paths (r ∷ rs) registers variables =
    IsCounted (inner_paths paths r.loop) r registers variables × AreCounted (inner_paths paths r.loop) rs registers variables

-- registers stand for these variables, at a block that has these loops round it
pub record StandFor (kinds : List Kind) (slots : Slots) (rounds : List Round) (registers : List ℕ) (variables : Variables) : Type 0 where
  pub fit : FitKinds kinds registers
  pub holding : Holding kinds slots registers variables
  pub counted : AreCounted outer_paths rounds registers variables
