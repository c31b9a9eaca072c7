-- What becomes of values at the end of a step: moves, each a test and the value that one of them then has. Of several
-- whose tests show 1 the first counts.
use Rattle.std.specs.Prelude.{◌≡◌, ℕ, ◌<◌, Bool, if◌then◌else◌, List, [], ◌∷◌, length, slice_index, slice_set}
use Rattle.std.specs.List.{AllByRecursion}
use Rattle.dh_cells.specs.FirstTests.{IsTested}
use Rattle.dh_cells.specs.PlainCircuits.{PlainCircuit}
use Rattle.dh_cells.specs.Settled.{Signals, IsSettled, Grows, shown}
use Rattle.dh_cells.specs.ShownValues.{is_one}
use Rattle.dh_cells.specs.declared.trees.Tested.{Tested}
use Rattle.dh_control.specs.declared.gathering.Keyed.{Keyed}
use Rattle.dh_control.specs.SizedWires.{WiresAreSized, shown_all}

-- a move: which value, the test, and the wire of the new value
abbrev pub Move : Type 0
Move = Keyed Tested

abbrev pub set_where : Bool → (place value : ℕ) → List ℕ → List ℕ
set_where t place value values = if t then slice_set values place value else values

-- values after moves
abbrev pub moved_values : Signals → List Move → (values : List ℕ) → List ℕ
moved_values x [] values = values
moved_values x (m ∷ ms) values = set_where (is_one x m.item.test) m.key (shown x m.item.value) (moved_values x ms values)

-- a move of a value of this width, where it is of one of these
abbrev pub MoveFits : PlainCircuit → (widths : List ℕ) → Move → Type 0
MoveFits d widths m = m.key < length widths → IsTested d m.item (slice_index widths m.key)

abbrev pub AreMoves : PlainCircuit → (widths : List ℕ) → List Move → Type 0
AreMoves d widths ms = AllByRecursion (MoveFits d widths) ms

-- cells were added for the values after moves
pub record MovesMade (old new : PlainCircuit) (widths wires : List ℕ) (moves : List Move) (news : List ℕ) : Type 0 where
  pub grows : Grows old new
  pub sized : WiresAreSized new widths news
  pub shows : (x : Signals) → IsSettled new x → shown_all x news ≡ moved_values x moves (shown_all x wires)
