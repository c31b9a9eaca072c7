-- What one clock does, after Verilog's nonblocking assignments (IEEE 1364-2005, 9.2.2): all is read
-- from the state before the clock, and all is written with it. Two writes of one element are made in order
-- of ports, so the later one stays.
-- A state holds each memory as the list of its elements in row-major order, as the runs of programs do. A
-- port reaches a row of its bank through the place of that row among all elements: from rows of banks to
-- places is onto and one to one, so the rows of a bank are elements that no other bank has.
use Rattle.std.specs.Prelude.{◌≡◌, ℕ, ◌%◌, ◌^◌, ◌==◌, ◌||◌, ◌&&◌, nat_lt, not, zero, suc, Bool, false, if◌then◌else◌, bit_and, bit_or, bit_xor, List, [], ◌∷◌, length, map, replicate, slice_get, slice_index, slice_index_or, slice_set, set, Option, Some, None}
use Rattle.dh_tree.specs.Elements.{dims_at, position_in_bank}
use Rattle.dh_tree.specs.declared.tables.MemEntry.{MemEntry}
use Rattle.dh_value.specs.Operations.{binary_of}
use Rattle.dh_value.specs.Words.{value_of, with_bits, word_of}
use Rattle.dh_value.specs.declared.kinds.Kind.TheVariants as kind
use Rattle.dh_value.specs.declared.operators.Op.{Op}
use Rattle.dh_value.specs.declared.operators.Op.TheVariants as op
use Rattle.dh_net.specs.BankPorts.{ports_of, port_number}
use Rattle.dh_net.specs.declared.nets.Cell.{Cell}
use Rattle.dh_net.specs.declared.nets.CellForm.{CellForm}
use Rattle.dh_net.specs.declared.nets.CellForm.TheVariants.{Const, Reg, Data, Add, Sub, Mul, And, Or, Xor, Shl, ShrU, ShrS, LtU, LtS, Eq, Mux, Zero, Sign, Low}
use Rattle.dh_net.specs.declared.nets.Driver.{Driver}
use Rattle.dh_net.specs.declared.nets.Net.{Net}
use Rattle.dh_net.specs.declared.ports.Port.{Port}

-- a state: the registers, the held data of each port, and the elements of each memory
pub record State : Type 0 where
  pub registers : List ℕ
  pub held : List ℕ
  pub memories : List (List ℕ)

-- the bits of what an operation gives on unsigned words of this width
abbrev pub unsigned_result : Op → (width a b : ℕ) → ℕ
unsigned_result o width a b = (binary_of o (with_bits (kind.Unsigned width) a) (with_bits (kind.Unsigned width) b)).bits

-- of a shift of an unsigned word, or of a word in two's complement, by an unsigned amount
abbrev pub shifted : Op → (width a b : ℕ) → ℕ
shifted o width a b = (binary_of o (with_bits (kind.Unsigned width) a) (with_bits (kind.Unsigned 64) b)).bits

abbrev pub shifted_signed : Op → (width a b : ℕ) → ℕ
shifted_signed o width a b = (binary_of o (with_bits (kind.Signed width) a) (with_bits (kind.Unsigned 64) b)).bits

-- 1 where a is below b in two's complement of this width
abbrev pub is_less_signed : (width a b : ℕ) → ℕ
is_less_signed width a b = (binary_of op.Lt (with_bits (kind.Signed width) a) (with_bits (kind.Signed width) b)).bits

-- the bits of this width with the value of a in two's complement of the narrow one
abbrev pub sign_extended : (narrow width a : ℕ) → ℕ
sign_extended narrow width a = (word_of (kind.Unsigned width) (value_of (with_bits (kind.Signed narrow) a))).bits

abbrev pub width_in : Option Cell → ℕ
width_in None = 0
width_in (Some c) = c.width

-- the width of a wire
abbrev pub wire_width : List Cell → ℕ → ℕ
wire_width cells a = width_in (slice_get cells a)

-- the value of a cell, by the registers, the held data and the other wires
abbrev pub form_value : List MemEntry → List Cell → (registers held wires : List ℕ) → (width : ℕ) → CellForm → ℕ
form_value table cells registers held wires width (Const bits) = bits
form_value table cells registers held wires width (Reg register) = slice_index registers register
form_value table cells registers held wires width (Data memory bank port) = slice_index held (port_number table memory bank port)
form_value table cells registers held wires width (Add a b) = unsigned_result op.Add width (slice_index wires a) (slice_index wires b)
form_value table cells registers held wires width (Sub a b) = unsigned_result op.Sub width (slice_index wires a) (slice_index wires b)
form_value table cells registers held wires width (Mul a b) = unsigned_result op.Mul width (slice_index wires a) (slice_index wires b)
form_value table cells registers held wires width (And a b) = bit_and (slice_index wires a) (slice_index wires b)
form_value table cells registers held wires width (Or a b) = bit_or (slice_index wires a) (slice_index wires b)
form_value table cells registers held wires width (Xor a b) = bit_xor (slice_index wires a) (slice_index wires b)
form_value table cells registers held wires width (Shl a b) = shifted op.Shl width (slice_index wires a) (slice_index wires b)
form_value table cells registers held wires width (ShrU a b) = shifted op.Shr width (slice_index wires a) (slice_index wires b)
form_value table cells registers held wires width (ShrS a b) = shifted_signed op.Shr width (slice_index wires a) (slice_index wires b)
form_value table cells registers held wires width (LtU a b) = if nat_lt (slice_index wires a) (slice_index wires b) then 1 else 0
form_value table cells registers held wires width (LtS a b) = is_less_signed (wire_width cells a) (slice_index wires a) (slice_index wires b)
form_value table cells registers held wires width (Eq a b) = if slice_index wires a == slice_index wires b then 1 else 0
form_value table cells registers held wires width (Mux c a b) = if slice_index wires c == 1 then slice_index wires a else slice_index wires b
form_value table cells registers held wires width (Zero a) = slice_index wires a
form_value table cells registers held wires width (Sign a) = sign_extended (wire_width cells a) width (slice_index wires a)
form_value table cells registers held wires width (Low a) = slice_index wires a % 2 ^ width

-- each wire has the value of its cell
pub record IsValuation (table : List MemEntry) (cells : List Cell) (registers held wires : List ℕ) : Type 0 where
  pub long : length wires ≡ length cells
  pub each : (i : ℕ) (c : Cell) → slice_get cells i ≡ Some c → slice_index wires i ≡ form_value table cells registers held wires c.width c.form

-- a valuation of a state of a net
abbrev pub Settles : Net → State → List ℕ → Type 0
Settles net s wires = IsValuation net.table net.cells s.registers s.held wires

-- the driver's enable wire is 1
abbrev pub is_active : List ℕ → Driver → Bool
is_active wires d = slice_index wires d.enable == 1

abbrev pub any_active : List ℕ → List Driver → Bool
any_active wires [] = false
any_active wires (d ∷ ds) = is_active wires d || any_active wires ds

-- two drivers of one port are active
abbrev pub has_clash : List ℕ → List Driver → Bool
has_clash wires [] = false
has_clash wires (d ∷ ds) = (is_active wires d && any_active wires ds) || has_clash wires ds

-- on some port
abbrev pub has_clashes : List ℕ → List (List Driver) → Bool
has_clashes wires [] = false
has_clashes wires (ds ∷ dss) = has_clash wires ds || has_clashes wires dss

-- an active driver's row is none of so many rows
abbrev pub has_stray : List ℕ → List Driver → (rows : ℕ) → Bool
has_stray wires [] rows = false
has_stray wires (d ∷ ds) rows = (is_active wires d && not (nat_lt (slice_index wires d.row) rows)) || has_stray wires ds rows

-- on some port, none of the rows of its bank
abbrev pub has_strays : List ℕ → List (List Driver) → List Port → Bool
has_strays wires [] ports = false
has_strays wires (ds ∷ dss) [] = false
has_strays wires (ds ∷ dss) (p ∷ ps) = has_stray wires ds p.rows || has_strays wires dss ps

-- an active driver of the net strays
abbrev pub strays : Net → List ℕ → Bool
strays net wires = has_strays wires net.drivers (ports_of net.table)

-- the driver that the port serves: its first active one
abbrev pub served : List ℕ → List Driver → Option Driver
served wires [] = None
served wires (d ∷ ds) = if is_active wires d then Some d else served wires ds

-- the elements of a memory
abbrev pub memory_at : List (List ℕ) → (memory : ℕ) → List ℕ
memory_at memories memory = slice_index_or memories memory []

-- the place among the elements of its memory of a row of a port's bank
abbrev pub position_of_row : List MemEntry → Port → (row : ℕ) → ℕ
position_of_row table p row = position_in_bank (dims_at table p.memory) p.bank row

-- the element in a row of a port's bank, 0 where that is no row of it
abbrev pub row_value : List MemEntry → Port → List (List ℕ) → (row : ℕ) → ℕ
row_value table p memories row = if nat_lt row p.rows then slice_index (memory_at memories p.memory) (position_of_row table p row) else 0

-- the memories with this value in a row of a port's bank, as they were where that is no row of it
abbrev pub with_row : List MemEntry → Port → List (List ℕ) → (row value : ℕ) → List (List ℕ)
with_row table p memories row value =
    if nat_lt row p.rows then set memories p.memory (slice_set (memory_at memories p.memory) (position_of_row table p row) value) else memories

-- a port's held data after the clock: the row as it was, where it reads
abbrev pub held_by : List MemEntry → List ℕ → Port → Option Driver → List (List ℕ) → ℕ → ℕ
held_by table wires p None memories had = had
held_by table wires p (Some d) memories had = if d.write then had else row_value table p memories (slice_index wires d.row)

-- the memories after what the port writes
abbrev pub written_by : List MemEntry → List ℕ → Port → Option Driver → List (List ℕ) → List (List ℕ)
written_by table wires p None memories = memories
written_by table wires p (Some d) memories = if d.write then with_row table p memories (slice_index wires d.row) (slice_index wires d.data_) else memories

abbrev pub held_after : List MemEntry → List ℕ → List (List Driver) → List Port → List (List ℕ) → List ℕ → List ℕ
held_after table wires (ds ∷ dss) (p ∷ ps) memories (h ∷ hs) =
    held_by table wires p (served wires ds) memories h ∷ held_after table wires dss ps memories hs
held_after table wires _ _ memories _ = []

abbrev pub memories_after : List MemEntry → List ℕ → List (List Driver) → List Port → List (List ℕ) → List (List ℕ)
memories_after table wires (ds ∷ dss) (p ∷ ps) memories = memories_after table wires dss ps (written_by table wires p (served wires ds) memories)
memories_after table wires _ _ memories = memories

-- one clock leads from the one state to the other
pub record Clocks (net : Net) (old new : State) : Type 0 where
  pub wires : List ℕ
  pub settled : Settles net old wires
  pub registers : new.registers ≡ map (λ r. slice_index wires r.next) net.registers
  pub held : new.held ≡ held_after net.table wires net.drivers (ports_of net.table) old.memories old.held
  pub memories : new.memories ≡ memories_after net.table wires net.drivers (ports_of net.table) old.memories

-- so many clocks lead from the one state to the other
abbrev pub ClocksTo : Net → ℕ → State → State → Type 0
ClocksTo net zero old new = old ≡ new
ClocksTo net (suc c) old new = (mid : State) × (ClocksTo net c old mid × Clocks net mid new)

-- the state before the first clock, with these memories
abbrev pub start_of : Net → List (List ℕ) → State
start_of net memories =
    record { registers = map (λ r. r.initial) net.registers; held = replicate (length net.drivers) 0; memories = memories }
