-- Every number of a valid net that the program can hold is below 2^64: wires and registers are fewer
-- than that, widths are at most 64, and a table has at most 1048576 elements.
use Rattle.std.proofs.Common.{◌≡◌, ℕ, ◌+◌, ◌*◌, ◌<◌, ◌≤◌, ◌^◌, List, [], ◌∷◌, ◌++◌, ap, sym, subst, length, suc, zero, arith, inl, inr}
use Rattle.std.specs.Prelude.{slice_get, Option, Some, None, option_map}
use Rattle.std.specs.List.{AllByRecursion}
use Rattle.std.proofs.Math.Pow.{pow_mono}
use Rattle.std.proofs.lemmas.Option.{slice_get_cases, slice_get_within}
use Rattle.dh_tree.specs.Elements.{rows_of}
use Rattle.dh_tree.specs.Shapes.{IsDim, IsProgramTable}
use Rattle.dh_tree.specs.Tables.{elements_of, elements_in}
use Rattle.dh_value.specs.Words.{IsInteger, width_of}
use Rattle.dh_value.specs.declared.kinds.Kind.{Kind}
use Rattle.dh_value.specs.declared.kinds.Kind.TheVariants as kind
use Rattle.dh_tree.specs.declared.tables.Dim.{Dim}
use Rattle.dh_tree.specs.declared.tables.MemEntry.{MemEntry}
use Rattle.dh_net.specs.BankPorts.{port_count, port_of, memory_ports, ports_from, ports_of}
use Rattle.dh_extents.specs.Extents.{IsSmallMemory}
use Rattle.dh_net.specs.RowWidths.{row_width_of}
use Rattle.dh_net.specs.Clock.{width_in, wire_width}
use Rattle.dh_net.specs.declared.nets.Cell.{Cell}
use Rattle.dh_net.specs.declared.nets.CellForm.{CellForm}
use Rattle.dh_net.specs.declared.nets.CellForm.TheVariants.{Const, Reg, Data, Add, Sub, Mul, And, Or, Xor, Shl, ShrU, ShrS, LtU, LtS, Eq, Mux, Zero, Sign, Low}
use Rattle.dh_net.specs.declared.nets.Driver.{Driver}
use Rattle.dh_net.specs.declared.nets.Net.{Net}
use Rattle.dh_net.specs.declared.nets.Register.{Register}
use Rattle.dh_net.specs.declared.ports.Port.{Port}
use Rattle.dh_net.specs.Valid.{HasWidth, IsOperand, AreOperands, IsPort, FormFits, IsRegister, IsDriver, IsValid}
use Rattle.dh_extents.proofs.DimSizes.{banks_below, elements_some, rows_fit}
use Rattle.dh_net.proofs.PortWalks.{small_memories}
use Rattle.dh_net.proofs.RowWidths.{row_width_met}
use Rattle.dh_verilog.specs.Ranges.{InRange}
use Rattle.dh_verilog.proofs.Walks.{of_each}
use Rattle.dh_verilog.proofs.Forms.{HasSmall}
use Rattle.dh_verilog.proofs.Declared.{IsSmallRegister, IsSmallCell}
use Rattle.dh_verilog.proofs.Commented.{IsSmallDim, IsSomeDims, IsSmallEntry}
use Rattle.dh_verilog.proofs.Driven.{IsSmallDriver, IsSmallPort, AllDrivers}

-- the number of an item is below the length
there : {A : Type 0} (width : A → ℕ) (xs : List A) (i v : ℕ) → option_map width (slice_get xs i) ≡ Some v → i < length xs
there width xs i v h =
    elim ((slice_get_cases xs i).1) [ inl found ↦ found.1 | inr past ↦ absurd (nothing width (slice_get xs i) v past.1 h) ]
  where
    nothing : {A : Type 0} (width : A → ℕ) (o : Option A) (v : ℕ) → o ≡ None → option_map width o ≡ Some v → ⊥
    nothing width o v none some =
        let t : option_map width o ≡ None = ap (option_map width) none in
        cc

wire_small : (cells : List Cell) (wire width : ℕ) → length cells < 2 ^ 64 → HasWidth cells wire width → wire < 2 ^ 64
wire_small cells wire width h at =
    let t : wire < length cells = there (λ c. c.width) cells wire width at in
    omega arith

bits_small : (bits width : ℕ) → width ≤ 64 → bits < 2 ^ width → bits < 2 ^ 64
bits_small bits width h small =
    let t : 2 ^ width ≤ 2 ^ 64 = pow_mono h in
    omega arith

-- memories

first_factor : (a b n : ℕ) → 1 ≤ b → a * b ≤ n → a ≤ n
first_factor a zero n h le = absurd (omega (arith, h))
first_factor a (suc b) n h le = let x : a * suc b ≡ a + a * b = omega arith in omega (arith, x, le)

second_factor : (a b n : ℕ) → 1 ≤ a → a * b ≤ n → b ≤ n
second_factor zero b n h le = absurd (omega (arith, h))
second_factor (suc a) b n h le = let x : suc a * b ≡ b + a * b = omega arith in omega (arith, x, le)

dims_small : (ds : List Dim) → AllByRecursion IsDim ds → elements_of ds ≤ 1048576 → AllByRecursion IsSmallDim ds
dims_small [] h few = tt
dims_small (d ∷ ds) h few =
    let size : d.size ≤ 1048576 = first_factor d.size (elements_of ds) 1048576 (elements_some ds h.1) few in
    let banks : d.banks ≤ d.size = banks_below d.size d.banks h.0.size h.0.banks h.0.divides in
    let rest : elements_of ds ≤ 1048576 = second_factor d.size (elements_of ds) 1048576 h.0.size few in
    (record { size = omega (arith, size); banks = omega (arith, size, banks) }, dims_small ds h.1 rest)

some_dims : (ds : List Dim) → 1 ≤ length ds → IsSomeDims ds
some_dims [] h = absurd (omega (arith, h))
some_dims (d ∷ ds) h = tt

entry_small : (e : MemEntry) → IsSmallMemory e → IsSmallEntry e
entry_small e h =
    let ports : e.shape.ports < 2 ^ 64 = let most = h.memory.shape.most in omega (arith, most) in
    record {
      name = h.memory.name.word;
      integer = h.memory.shape.integer;
      ports = ports;
      some = some_dims e.shape.dims h.memory.shape.least_dims;
      dims = dims_small e.shape.dims h.memory.shape.dims h.few;
    }

entries_small : (es : List MemEntry) → AllByRecursion IsSmallMemory es → AllByRecursion IsSmallEntry es
entries_small [] h = tt
entries_small (e ∷ es) h = (entry_small e h.0, entries_small es h.1)

pub table_small : (es : List MemEntry) → IsProgramTable es → AllByRecursion IsSmallEntry es
table_small es h = entries_small es (small_memories es h)

row_width_small : (rows : ℕ) → rows ≤ 1048576 → row_width_of rows < 2 ^ 64
row_width_small rows h =
    let t : row_width_of rows ≤ 20 = (row_width_met rows).none_less 20 (omega arith) (omega arith) in
    omega arith

kind_small : (k : Kind) → IsInteger k → width_of k < 2 ^ 64
kind_small kind.Bool h = absurd h
kind_small (kind.Unsigned w) h = omega arith
kind_small (kind.Signed w) h = omega arith

port_small : (memory : ℕ) (e : MemEntry) (k : ℕ) → IsSmallMemory e → IsSmallPort (port_of memory e k)
port_small memory e k h =
    let rows = rows_fit e.shape.dims h.memory.shape.dims in
    let few = h.few in
    record { rows = row_width_small (rows_of e.shape.dims) (omega (arith, rows, few)); out = kind_small e.shape.kind h.memory.shape.integer }

all_small : (ps qs : List Port) → AllByRecursion IsSmallPort ps → AllByRecursion IsSmallPort qs → AllByRecursion IsSmallPort (ps ++ qs)
all_small [] qs h k = k
all_small (p ∷ ps) qs h k = (h.0, all_small ps qs h.1 k)

memory_ports_small : (memory : ℕ) (e : MemEntry) (k n : ℕ) → IsSmallMemory e → AllByRecursion IsSmallPort (memory_ports memory e k n)
memory_ports_small memory e k zero h = tt
memory_ports_small memory e k (suc n) h = (port_small memory e k h, memory_ports_small memory e (k + 1) n h)

ports_are_small : (first : ℕ) (es : List MemEntry) → AllByRecursion IsSmallMemory es → AllByRecursion IsSmallPort (ports_from first es)
ports_are_small first [] h = tt
ports_are_small first (e ∷ es) h =
    all_small (memory_ports first e 0 (port_count e)) (ports_from (first + 1) es) (memory_ports_small first e 0 (port_count e) h.0) (ports_are_small (first + 1) es h.1)

pub ports_small : (es : List MemEntry) → IsProgramTable es → AllByRecursion IsSmallPort (ports_of es)
ports_small es h = ports_are_small 0 es (small_memories es h)

least_elements : (es : List MemEntry) → AllByRecursion IsSmallMemory es → length es ≤ elements_in es
least_elements [] h = omega arith
least_elements (e ∷ es) h =
    let least : 1 ≤ elements_of e.shape.dims = elements_some e.shape.dims h.0.memory.shape.dims in
    let more : length es ≤ elements_in es = least_elements es h.1 in
    omega arith

memory_small : (es : List MemEntry) → IsProgramTable es → (i : ℕ) (e : MemEntry) → slice_get es i ≡ Some e → i < 2 ^ 64
memory_small es h i e at =
    let within : i < length es = slice_get_within es i e at in
    let long : length es ≤ elements_in es = least_elements es (small_memories es h) in
    let most : elements_in es ≤ 1048576 = h.elements in
    omega arith

memory_at : (es : List MemEntry) → AllByRecursion IsSmallMemory es → (i : ℕ) (e : MemEntry) → slice_get es i ≡ Some e → IsSmallMemory e
memory_at [] h i e at = absurd (cc)
memory_at (x ∷ es) h zero e at = let same : x ≡ e = cc in subst IsSmallMemory same h.0
memory_at (x ∷ es) h (suc i) e at = memory_at es h.1 i e at

-- the bank and the port that a cell names
port_named : (net : Net) → IsValid net → (memory bank port width : ℕ) → IsPort net.table memory bank port width → (bank < 2 ^ 64) × (port < 2 ^ 64)
port_named net v memory bank port width h =
    let own = memory_at net.table (small_memories net.table v.table) memory h.entry h.there in
    let banks = own.memory.shape.few_banks in
    let ports = own.memory.shape.most in
    let b = h.bank_there in
    let p = h.port_there in
    (omega (arith, banks, b), omega (arith, ports, p))

-- registers
pub registers_small : (net : Net) → IsValid net → InRange net → AllByRecursion IsSmallRegister net.registers
registers_small net v r = of_each IsSmallRegister net.registers λ i g at. small g (v.registers i g at)
  where
    small : (g : Register) → IsRegister net.cells g → IsSmallRegister g
    small g h =
        record { least = h.least; greatest = h.greatest; initial = bits_small g.initial g.width h.greatest h.initial; next = wire_small net.cells g.next g.width r.cells h.next }

-- cells
operand_small : (cells : List Cell) (i a width : ℕ) → length cells < 2 ^ 64 → IsOperand cells i a width → a < 2 ^ 64
operand_small cells i a width r h = wire_small cells a width r h.wide

operands_small : (cells : List Cell) (i a b width : ℕ) → length cells < 2 ^ 64 → AreOperands cells i a b width → (a < 2 ^ 64) × (b < 2 ^ 64)
operands_small cells i a b width r h = (operand_small cells i a width r h.left, operand_small cells i b width r h.right)

-- the width of a wire that is less wide than a cell
narrow_small : (cells : List Cell) (a narrow width : ℕ) → width ≤ 64 → HasWidth cells a narrow → narrow < width → wire_width cells a < 2 ^ 64
narrow_small cells a narrow width w at less = subst (λ (n : ℕ). n < 2 ^ 64) (sym (told (slice_get cells a) at)) (omega (arith, w, less))
  where
    told : (o : Option Cell) → option_map (λ c. c.width) o ≡ Some narrow → width_in o ≡ narrow
    told None e = absurd (cc)
    told (Some c) e = cc

form_small : (net : Net) → IsValid net → InRange net → (i width : ℕ) (f : CellForm) → width ≤ 64 → FormFits net.table net.registers net.cells i width f → HasSmall net.cells f
form_small net v r i width (Const bits) w h = bits_small bits width w h
form_small net v r i width (Reg register) w h =
    let t : register < length net.registers = there (λ g. g.width) net.registers register width h in
    let u : length net.registers < 2 ^ 64 = r.registers in
    omega arith
form_small net v r i width (Data memory bank port) w h =
    (memory_small net.table v.table memory h.entry h.there, port_named net v memory bank port width h)
form_small net v r i width (Add a b) w h = operands_small net.cells i a b width r.cells h
form_small net v r i width (Sub a b) w h = operands_small net.cells i a b width r.cells h
form_small net v r i width (Mul a b) w h = operands_small net.cells i a b width r.cells h
form_small net v r i width (And a b) w h = operands_small net.cells i a b width r.cells h
form_small net v r i width (Or a b) w h = operands_small net.cells i a b width r.cells h
form_small net v r i width (Xor a b) w h = operands_small net.cells i a b width r.cells h
form_small net v r i width (Shl a b) w h = (operand_small net.cells i a width r.cells h.0, operand_small net.cells i b h.1.0 r.cells h.1.1)
form_small net v r i width (ShrU a b) w h = (operand_small net.cells i a width r.cells h.0, operand_small net.cells i b h.1.0 r.cells h.1.1)
form_small net v r i width (ShrS a b) w h = (operand_small net.cells i a width r.cells h.0, operand_small net.cells i b h.1.0 r.cells h.1.1)
form_small net v r i width (LtU a b) w h = operands_small net.cells i a b h.1.0 r.cells h.1.1
form_small net v r i width (LtS a b) w h = operands_small net.cells i a b h.1.0 r.cells h.1.1
form_small net v r i width (Eq a b) w h = operands_small net.cells i a b h.1.0 r.cells h.1.1
form_small net v r i width (Mux c a b) w h = (operand_small net.cells i c 1 r.cells h.0, operands_small net.cells i a b width r.cells h.1)
form_small net v r i width (Zero a) w h = operand_small net.cells i a h.0 r.cells h.1.0
form_small net v r i width (Sign a) w h = (operand_small net.cells i a h.0 r.cells h.1.0, narrow_small net.cells a h.0 width w h.1.0.wide h.1.1)
form_small net v r i width (Low a) w h = operand_small net.cells i a h.0 r.cells h.1.0

pub cells_small : (net : Net) → IsValid net → InRange net → AllByRecursion (IsSmallCell net.cells) net.cells
cells_small net v r =
    of_each (IsSmallCell net.cells) net.cells λ i c at.
    let h = v.cells i c at in
    record { least = h.least; greatest = h.greatest; form = form_small net v r i c.width c.form h.greatest h.form }

-- drivers
driver_small : (cells : List Cell) (p : Port) (d : Driver) → length cells < 2 ^ 64 → IsDriver cells p d → IsSmallDriver d
driver_small cells p d r h =
    record { enable = wire_small cells d.enable 1 r h.enable; row = wire_small cells d.row p.row_width r h.row; out = λ w. wire_small cells d.data_ p.width r (h.out w) }

pub drivers_small : (net : Net) → IsValid net → InRange net → AllDrivers IsSmallDriver net.drivers
drivers_small net v r =
    of_each (λ ds. AllByRecursion IsSmallDriver ds) net.drivers λ i ds at.
    elim ((slice_get_cases (ports_of net.table) i).1) [
      | inl found ↦ of_each IsSmallDriver ds λ k d here. driver_small net.cells found.0 d r.cells (v.drivers i ds found.0 at found.2 k d here)
      | inr past ↦ absurd (too_far i ds at past.0)
    ]
  where
    too_far : (i : ℕ) (ds : List Driver) → slice_get net.drivers i ≡ Some ds → length (ports_of net.table) ≤ i → ⊥
    too_far i ds at past =
        let t : i < length net.drivers = slice_get_within net.drivers i ds at in
        let u : length net.drivers ≡ length (ports_of net.table) = v.ports in
        omega arith

-- outputs
pub record HasSmallOutputs (net : Net) : Type 0 where
  pub tick : net.tick < 2 ^ 64
  pub done : net.done < 2 ^ 64
  pub fault : net.fault < 2 ^ 64

pub outputs_small : (net : Net) → IsValid net → InRange net → HasSmallOutputs net
outputs_small net v r =
    record { tick = wire_small net.cells net.tick 1 r.cells v.tick; done = wire_small net.cells net.done 1 r.cells v.done; fault = wire_small net.cells net.fault 32 r.cells v.fault }
