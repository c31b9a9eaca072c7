-- Lists of wires that are added one after the other.
use Rattle.std.specs.Prelude.{◌≡◌, ℕ, ◌<◌, List, length, slice_index}
use Rattle.dh_cells.specs.PlainCircuits.{PlainCircuit}
use Rattle.dh_cells.specs.Settled.{Signals, Grows, Shows}

-- So many wires were added, of which each has a width and shows a value.
pub record EachShows (old new : PlainCircuit) (width : ℕ → ℕ) (value : ℕ → Signals → ℕ) (count : ℕ) (wires : List ℕ) : Type 0 where
  pub grows : Grows old new
  pub long : length wires ≡ count
  pub each : (i : ℕ) → i < count → Shows new (slice_index wires i) (width i) (value i)

-- bits
abbrev pub EachTells : (old new : PlainCircuit) → (value : ℕ → Signals → ℕ) → (count : ℕ) → (wires : List ℕ) → Type 0
EachTells old new value count wires = EachShows old new (λ i. 1) value count wires
