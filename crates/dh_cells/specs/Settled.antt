-- What the wires of a circuit show. Each fact is stated for every way in which the circuit can settle, so that it
-- stays true when cells are added behind: what settles more cells settles fewer.
use Rattle.std.specs.Prelude.{◌≡◌, ℕ, ◌<◌, ◌≤◌, ◌^◌, List, [], ◌∷◌, length, slice_get, slice_index, Some, Result, IfOk}
use Rattle.dh_base.specs.declared.lists.NoMemory.{NoMemory}
use Rattle.dh_tree.specs.declared.tables.MemEntry.{MemEntry}
use Rattle.dh_net.specs.BankPorts.{ports_of}
use Rattle.dh_net.specs.Clock.{form_value, IsValuation}
use Rattle.dh_net.specs.Valid.{HasWidth}
use Rattle.dh_net.specs.declared.nets.Cell.{Cell}
use Rattle.dh_net.specs.declared.nets.CellForm.{CellForm}
use Rattle.dh_net.specs.declared.nets.CellForm.TheVariants.{LtS, Sign}
use Rattle.dh_net.specs.declared.ports.Port.{Port}
use Rattle.dh_cells.specs.PlainCircuits.{PlainCircuit}

-- what registers, ports and wires show in one clock
pub record Signals : Type 0 where
  pub registers : List ℕ
  pub held : List ℕ
  pub wires : List ℕ

abbrev pub signals : (registers held wires : List ℕ) → Signals
signals registers held wires = record { registers = registers; held = held; wires = wires }

abbrev pub shown : Signals → (wire : ℕ) → ℕ
shown x wire = slice_index x.wires wire

-- the wires whose widths the value of a form depends on are there
abbrev pub IsMeasured : List Cell → CellForm → Type 0
IsMeasured cells (LtS a b) = a < length cells
IsMeasured cells (Sign a) = a < length cells
IsMeasured cells form = Unit {0}

-- no register and no held datum has more bits than its width
pub record FitWidths (table : List MemEntry) (widths registers held : List ℕ) : Type 0 where
  pub registers_fit : (i width : ℕ) → slice_get widths i ≡ Some width → slice_index registers i < 2 ^ width
  pub held_fit : (i : ℕ) (p : Port) → slice_get (ports_of table) i ≡ Some p → slice_index held i < 2 ^ p.width

-- the wires solve the equations of the cells
pub record IsSettled (d : PlainCircuit) (x : Signals) : Type 0 where
  pub fit : FitWidths d.table d.widths x.registers x.held
  pub cells : (i : ℕ) (c : Cell) → slice_get d.cells i ≡ Some c → IsMeasured d.cells c.form
      → shown x i ≡ form_value d.table d.cells x.registers x.held x.wires c.width c.form

-- a valuation of the cells, in a state that fits the widths, settles the circuit
abbrev pub ValuationSettles : PlainCircuit → Type 0
ValuationSettles d =
    (registers held wires : List ℕ) → FitWidths d.table d.widths registers held → IsValuation d.table d.cells registers held wires
    → IsSettled d (signals registers held wires)

-- the cells begin with those
abbrev pub BeginsWith : (new old : List Cell) → Type 0
BeginsWith new old = (i : ℕ) (c : Cell) → slice_get old i ≡ Some c → slice_get new i ≡ Some c

-- only cells were added
pub record Grows (old new : PlainCircuit) : Type 0 where
  pub table : new.table ≡ old.table
  pub widths : new.widths ≡ old.widths
  pub cells : BeginsWith new.cells old.cells

-- the wire is there, with this width, and never shows more bits
pub record IsWire (d : PlainCircuit) (wire width : ℕ) : Type 0 where
  pub wide : HasWidth d.cells wire width
  pub least : 1 ≤ width
  pub greatest : width ≤ 64
  pub fits : (x : Signals) → IsSettled d x → shown x wire < 2 ^ width

-- the wire is there, of any width
abbrev pub IsAmount : PlainCircuit → (wire : ℕ) → Type 0
IsAmount d wire = (width : ℕ) × IsWire d wire width

-- the wire has this width, and always shows this value
pub record Shows (d : PlainCircuit) (wire width : ℕ) (value : Signals → ℕ) : Type 0 where
  pub there : IsWire d wire width
  pub is : (x : Signals) → IsSettled d x → shown x wire ≡ value x

-- cells were added, if any, and the wire now shows this value
pub record Adds (old new : PlainCircuit) (wire width : ℕ) (value : Signals → ℕ) : Type 0 where
  pub grows : Grows old new
  pub shows : Shows new wire width value

-- where memory was had, the wire that is answered is so
abbrev pub WireAdded : Result ℕ NoMemory → (old new : PlainCircuit) → (width : ℕ) → (value : Signals → ℕ) → Type 0
WireAdded result old new width value = IfOk result (λ wire. Adds old new wire width value)

-- all of these are wires of one width
abbrev pub AreWires : PlainCircuit → (wires : List ℕ) → (width : ℕ) → Type 0
AreWires d [] width = Unit {0}
AreWires d (w ∷ ws) width = IsWire d w width × AreWires d ws width
