-- Wires of given widths, and what they show together.
use Rattle.std.specs.Prelude.{◌≡◌, ℕ, ◌<◌, List, length, map, slice_index}
use Rattle.dh_cells.specs.PlainCircuits.{PlainCircuit}
use Rattle.dh_cells.specs.Settled.{Signals, IsWire, shown}

-- what these wires show
abbrev pub shown_all : Signals → (wires : List ℕ) → List ℕ
shown_all x wires = map (λ w. shown x w) wires

-- a wire for each of these widths
pub record WiresAreSized (d : PlainCircuit) (widths wires : List ℕ) : Type 0 where
  pub long : length wires ≡ length widths
  pub each : (i : ℕ) → i < length widths → IsWire d (slice_index wires i) (slice_index widths i)
