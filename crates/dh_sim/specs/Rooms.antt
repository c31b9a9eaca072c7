-- That what a cell names is there: it has its place in the registers, the held data or the wires; which value it
-- has; and that the operands of an operation are words.
use Rattle.std.specs.Prelude.{◌≡◌, ℕ, ◌<◌, ◌^◌, true, List, length, slice_get, slice_index, Option, Some, None}
use Rattle.dh_tree.specs.declared.tables.MemEntry.{MemEntry}
use Rattle.dh_value.specs.Words.{IsWidth}
use Rattle.dh_tree.specs.Elements.{banks_of, rows_of}
use Rattle.dh_net.specs.BankPorts.{port_number}
use Rattle.dh_extents.specs.Extents.{IsSmallMemory}
use Rattle.dh_net.specs.Clock.{wire_width, form_value}
use Rattle.dh_net.specs.declared.nets.Cell.{Cell}
use Rattle.dh_net.specs.declared.nets.CellForm.{CellForm}
use Rattle.dh_net.specs.declared.nets.Driver.{Driver}
use Rattle.dh_net.specs.declared.nets.Net.{Net}
use Rattle.dh_net.specs.declared.ports.Port.{Port}
use Rattle.dh_net.specs.declared.nets.CellForm.TheVariants.{Const, Reg, Data, Add, Sub, Mul, And, Or, Xor, Shl, ShrU, ShrS, LtU, LtS, Eq, Mux, Zero, Sign, Low}

-- what the form names lies within so many registers, held data and wires
abbrev pub IsInRooms : List MemEntry → (registers held wires : ℕ) → CellForm → Type 0
IsInRooms table registers held wires (Const bits) = Unit {0}
IsInRooms table registers held wires (Reg register) = register < registers
IsInRooms table registers held wires (Data memory bank port) = (memory < length table) × (port_number table memory bank port < held)
IsInRooms table registers held wires (Add a b) = (a < wires) × (b < wires)
IsInRooms table registers held wires (Sub a b) = (a < wires) × (b < wires)
IsInRooms table registers held wires (Mul a b) = (a < wires) × (b < wires)
IsInRooms table registers held wires (And a b) = (a < wires) × (b < wires)
IsInRooms table registers held wires (Or a b) = (a < wires) × (b < wires)
IsInRooms table registers held wires (Xor a b) = (a < wires) × (b < wires)
IsInRooms table registers held wires (Shl a b) = (a < wires) × (b < wires)
IsInRooms table registers held wires (ShrU a b) = (a < wires) × (b < wires)
IsInRooms table registers held wires (ShrS a b) = (a < wires) × (b < wires)
IsInRooms table registers held wires (LtU a b) = (a < wires) × (b < wires)
IsInRooms table registers held wires (LtS a b) = (a < wires) × (b < wires)
IsInRooms table registers held wires (Eq a b) = (a < wires) × (b < wires)
IsInRooms table registers held wires (Mux c a b) = (c < wires) × ((a < wires) × (b < wires))
IsInRooms table registers held wires (Zero a) = a < wires
IsInRooms table registers held wires (Sign a) = a < wires
IsInRooms table registers held wires (Low a) = a < wires

-- what the cell of a net names is there
abbrev pub HasRooms : Net → (registers held wires : List ℕ) → Cell → Type 0
HasRooms net registers held wires c = IsInRooms net.table (length registers) (length held) (length wires) c.form

-- the value of the cell of a net, by the registers, the held data and the wires
abbrev pub cell_value_in : Net → (registers held wires : List ℕ) → Cell → ℕ
cell_value_in net registers held wires c = form_value net.table net.cells registers held wires c.width c.form

-- a wire is below 2 to the power of a width
abbrev pub WireFits : List ℕ → (wire width : ℕ) → Type 0
WireFits wires a width = slice_index wires a < 2 ^ width

-- the operands of an operation of this width are words
abbrev pub AreWords : List Cell → (wires : List ℕ) → (width : ℕ) → CellForm → Type 0
AreWords cells wires width (Add a b) = WireFits wires a width × WireFits wires b width
AreWords cells wires width (Sub a b) = WireFits wires a width × WireFits wires b width
AreWords cells wires width (Mul a b) = WireFits wires a width × WireFits wires b width
AreWords cells wires width (Shl a b) = WireFits wires a width × WireFits wires b 64
AreWords cells wires width (ShrU a b) = WireFits wires a width × WireFits wires b 64
AreWords cells wires width (ShrS a b) = WireFits wires a width × WireFits wires b 64
AreWords cells wires width (LtS a b) = IsWidth (wire_width cells a) × (WireFits wires a (wire_width cells a) × WireFits wires b (wire_width cells a))
AreWords cells wires width (Sign a) = IsWidth (wire_width cells a) × WireFits wires a (wire_width cells a)
AreWords cells wires width form = Unit {0}

-- the wires of a driver are there
pub record IsDriverInRooms (wires : ℕ) (d : Driver) : Type 0 where
  pub enable : d.enable < wires
  pub row : d.row < wires
  pub out : d.write ≡ true → d.data_ < wires

-- of each driver of a port
abbrev pub AreDriversInRooms : (wires : ℕ) → List Driver → Type 0
AreDriversInRooms wires drivers = (k : ℕ) (d : Driver) → slice_get drivers k ≡ Some d → IsDriverInRooms wires d

-- of the driver that a port serves
abbrev pub IsServedInRooms : (wires : ℕ) → Option Driver → Type 0
IsServedInRooms wires None = Unit {0}
IsServedInRooms wires (Some d) = IsDriverInRooms wires d

-- the port is one of a bank of a memory of the table
pub record IsPlacedPort (table : List MemEntry) (p : Port) : Type 0 where
  pub entry : MemEntry
  pub there : slice_get table p.memory ≡ Some entry
  pub small : IsSmallMemory entry
  pub bank : p.bank < banks_of entry.shape.dims
  pub rows : p.rows ≡ rows_of entry.shape.dims
