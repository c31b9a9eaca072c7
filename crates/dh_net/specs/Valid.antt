-- When a net is valid: widths agree, and whatever is named is there and earlier (this profile).
use Rattle.std.specs.Prelude.{◌≡◌, ℕ, ◌<◌, ◌≤◌, ◌^◌, true, false, List, length, slice_get, Some, option_map}
use Rattle.std.specs.List.{AllByRecursion}
use Rattle.dh_tree.specs.Elements.{banks_of}
use Rattle.dh_tree.specs.Shapes.{IsProgramTable}
use Rattle.dh_value.specs.Words.{width_of}
use Rattle.dh_tree.specs.declared.tables.MemEntry.{MemEntry}
use Rattle.dh_net.specs.BankPorts.{ports_of}
use Rattle.dh_net.specs.declared.nets.Register.{Register}
use Rattle.dh_net.specs.declared.nets.Cell.{Cell}
use Rattle.dh_net.specs.declared.nets.CellForm.{CellForm}
use Rattle.dh_net.specs.declared.nets.CellForm.TheVariants.{Const, Reg, Data, Add, Sub, Mul, And, Or, Xor, Shl, ShrU, ShrS, LtU, LtS, Eq, Mux, Zero, Sign, Low}
use Rattle.dh_net.specs.declared.nets.Driver.{Driver}
use Rattle.dh_net.specs.declared.nets.Net.{Net}
use Rattle.dh_net.specs.declared.ports.Port.{Port}

-- the wire is there and has this width
abbrev pub HasWidth : List Cell → (wire width : ℕ) → Type 0
HasWidth cells wire width = option_map (λ c. c.width) (slice_get cells wire) ≡ Some width

-- the wire is of an earlier cell than the one with this number, and has this width
pub record IsOperand (cells : List Cell) (cell wire width : ℕ) : Type 0 where
  pub earlier : wire < cell
  pub wide : HasWidth cells wire width

-- both wires are such operands
pub record AreOperands (cells : List Cell) (cell a b width : ℕ) : Type 0 where
  pub left : IsOperand cells cell a width
  pub right : IsOperand cells cell b width

-- the wire is such an operand, of any width
abbrev pub IsAnyOperand : List Cell → (cell wire : ℕ) → Type 0
IsAnyOperand cells cell wire = (wide : ℕ) × IsOperand cells cell wire wide

-- both wires are such operands, of one width
abbrev pub AreSameWidthOperands : List Cell → (cell a b : ℕ) → Type 0
AreSameWidthOperands cells cell a b = (wide : ℕ) × AreOperands cells cell a b wide

-- the wire is such an operand, less wide than the cell
abbrev pub IsNarrower : List Cell → (cell wire width : ℕ) → Type 0
IsNarrower cells cell wire width = (narrow : ℕ) × (IsOperand cells cell wire narrow × (narrow < width))

-- the wire is such an operand, wider than the cell
abbrev pub IsWider : List Cell → (cell wire width : ℕ) → Type 0
IsWider cells cell wire width = (wide : ℕ) × (IsOperand cells cell wire wide × (width < wide))

-- a port of a bank of a memory with values of this width
pub record IsPort (table : List MemEntry) (memory bank port width : ℕ) : Type 0 where
  pub entry : MemEntry
  pub there : slice_get table memory ≡ Some entry
  pub bank_there : bank < banks_of entry.shape.dims
  pub port_there : port < entry.shape.ports
  pub wide : width_of entry.shape.kind ≡ width

-- the operands that a form needs
abbrev pub FormFits : List MemEntry → List Register → List Cell → (cell width : ℕ) → CellForm → Type 0
FormFits table registers cells i width (Const bits) = bits < 2 ^ width
FormFits table registers cells i width (Reg register) = option_map (λ r. r.width) (slice_get registers register) ≡ Some width
FormFits table registers cells i width (Data memory bank port) = IsPort table memory bank port width
FormFits table registers cells i width (Add a b) = AreOperands cells i a b width
FormFits table registers cells i width (Sub a b) = AreOperands cells i a b width
FormFits table registers cells i width (Mul a b) = AreOperands cells i a b width
FormFits table registers cells i width (And a b) = AreOperands cells i a b width
FormFits table registers cells i width (Or a b) = AreOperands cells i a b width
FormFits table registers cells i width (Xor a b) = AreOperands cells i a b width
FormFits table registers cells i width (Shl a b) = IsOperand cells i a width × IsAnyOperand cells i b
FormFits table registers cells i width (ShrU a b) = IsOperand cells i a width × IsAnyOperand cells i b
FormFits table registers cells i width (ShrS a b) = IsOperand cells i a width × IsAnyOperand cells i b
FormFits table registers cells i width (LtU a b) = (width ≡ 1) × AreSameWidthOperands cells i a b
FormFits table registers cells i width (LtS a b) = (width ≡ 1) × AreSameWidthOperands cells i a b
FormFits table registers cells i width (Eq a b) = (width ≡ 1) × AreSameWidthOperands cells i a b
FormFits table registers cells i width (Mux c a b) = IsOperand cells i c 1 × AreOperands cells i a b width
FormFits table registers cells i width (Zero a) = IsNarrower cells i a width
FormFits table registers cells i width (Sign a) = IsNarrower cells i a width
FormFits table registers cells i width (Low a) = IsWider cells i a width

-- the cell with this number
pub record IsCell (table : List MemEntry) (registers : List Register) (cells : List Cell) (i : ℕ) (c : Cell) : Type 0 where
  pub least : 1 ≤ c.width
  pub greatest : c.width ≤ 64
  pub form : FormFits table registers cells i c.width c.form

pub record IsRegister (cells : List Cell) (r : Register) : Type 0 where
  pub least : 1 ≤ r.width
  pub greatest : r.width ≤ 64
  pub initial : r.initial < 2 ^ r.width
  pub next : HasWidth cells r.next r.width

-- a driver of this port
pub record IsDriver (cells : List Cell) (p : Port) (d : Driver) : Type 0 where
  pub enable : HasWidth cells d.enable 1
  pub row : HasWidth cells d.row p.row_width
  pub out : d.write ≡ true → HasWidth cells d.data_ p.width

pub record IsValid (net : Net) : Type 0 where
  pub table : IsProgramTable net.table
  pub registers : (i : ℕ) (r : Register) → slice_get net.registers i ≡ Some r → IsRegister net.cells r
  pub cells : (i : ℕ) (c : Cell) → slice_get net.cells i ≡ Some c → IsCell net.table net.registers net.cells i c
  pub ports : length net.drivers ≡ length (ports_of net.table)
  pub drivers : (i : ℕ) (ds : List Driver) (p : Port) → slice_get net.drivers i ≡ Some ds → slice_get (ports_of net.table) i ≡ Some p
      → (k : ℕ) (d : Driver) → slice_get ds k ≡ Some d → IsDriver net.cells p d
  pub tick : HasWidth net.cells net.tick 1
  pub done : HasWidth net.cells net.done 1
  pub fault : HasWidth net.cells net.fault 32

-- a read has data 0
abbrev pub ReadsZero : Driver → Type 0
ReadsZero d = d.write ≡ false → d.data_ ≡ 0

-- each read of the net has data 0: the data of a read means nothing, and no text of a net shows it
abbrev pub HasReadsZero : Net → Type 0
HasReadsZero net = AllByRecursion (λ ds. AllByRecursion ReadsZero ds) net.drivers
