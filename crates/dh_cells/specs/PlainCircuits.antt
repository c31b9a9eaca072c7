-- Circuits: the cells of a net that is being built, over its memories and over registers of which only the widths
-- are known yet. (Circuits are this project's; after netlists of hardware.)
use Rattle.std.specs.Prelude.{◌≡◌, ◌⊎◌, ℕ, ◌≤◌, List, [], ◌∷◌, ◌++◌, length, map, slice_get, Some}
use Rattle.dh_tree.specs.declared.tables.MemEntry.{MemEntry}
use Rattle.dh_net.specs.Valid.{FormFits, IsCell}
use Rattle.dh_net.specs.declared.nets.Cell.{Cell}
use Rattle.dh_net.specs.declared.nets.CellForm.{CellForm}
use Rattle.dh_net.specs.declared.nets.Register.{Register}
use Rattle.dh_cells.specs.NarrowShifts.{ShiftsLess, HasNarrowShifts}
use Rattle.dh_net.specs.Parts.{one_cell}

-- the memories, the widths of the registers, and the cells so far
pub record PlainCircuit : Type 0 where
  pub table : List MemEntry
  pub widths : List ℕ
  pub cells : List Cell

abbrev pub circuit_of : List MemEntry → List ℕ → List Cell → PlainCircuit
circuit_of table widths cells = record { table = table; widths = widths; cells = cells }

-- the circuit with one cell more
abbrev pub with_cell : PlainCircuit → Cell → PlainCircuit
with_cell d c = circuit_of d.table d.widths (d.cells ++ c ∷ [])

-- A cell asks of a register for its width alone, so these stand for all registers of these widths.
abbrev pub blank_register : ℕ → Register
blank_register width = record { width = width; initial = 0; next = 0 }

abbrev pub blank_registers : List ℕ → List Register
blank_registers widths = map blank_register widths

-- each cell has its operands before it
abbrev pub AreCells : PlainCircuit → Type 0
AreCells d = (i : ℕ) (c : Cell) → slice_get d.cells i ≡ Some c → IsCell d.table (blank_registers d.widths) d.cells i c

-- the wire is that of a cell of this width and form
abbrev pub IsWireOfForm : PlainCircuit → (wire width : ℕ) → CellForm → Type 0
IsWireOfForm d wire width form = slice_get d.cells wire ≡ Some (one_cell width form)

-- the circuit is as it was, or has a cell of this width and form more, and nothing else
pub record AddsAtMost (old new : PlainCircuit) (width : ℕ) (form : CellForm) : Type 0 where
  pub either : (new ≡ old) ⊎ (new ≡ with_cell old (one_cell width form))

-- what always holds of a circuit
pub record IsCircuit (d : PlainCircuit) : Type 0 where
  pub cells : AreCells d
  pub shifts : HasNarrowShifts d.cells

-- the next cell may be this one
pub record IsNext (d : PlainCircuit) (width : ℕ) (form : CellForm) : Type 0 where
  pub least : 1 ≤ width
  pub greatest : width ≤ 64
  pub fits : FormFits d.table (blank_registers d.widths) d.cells (length d.cells) width form
  pub shifts : ShiftsLess d.cells width form

-- with registers of the circuit's widths its cells are those of a valid net
abbrev pub SuitRegisters : PlainCircuit → Type 0
SuitRegisters d =
    (registers : List Register) → map (λ r. r.width) registers ≡ d.widths
    → (i : ℕ) (c : Cell) → slice_get d.cells i ≡ Some c → IsCell d.table registers d.cells i c
