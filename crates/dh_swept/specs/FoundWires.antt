-- How what a net needs is found: marks are set, and wires are listed in the order in which they get theirs.
use Rattle.std.specs.Prelude.{ℕ, true, false, if◌then◌else◌, List, [], ◌∷◌, ◌++◌, length, get_or, set, replicate, slice_get, Option, Some, None}
use Rattle.dh_net.specs.declared.nets.Cell.{Cell}
use Rattle.dh_net.specs.declared.nets.CellForm.{CellForm}
use Rattle.dh_net.specs.declared.nets.Net.{Net}
use Rattle.dh_net.specs.declared.nets.Register.{Register}
use Rattle.dh_swept.specs.RenamedWires.{operands_of, registers_of}
use Rattle.dh_swept.specs.declared.marking.Marks.{Marks}

-- nothing of a net is marked
abbrev pub unmarked : Net → Marks
unmarked net = record { wires = replicate (length net.cells) false; registers = replicate (length net.registers) false; found = [] }

-- a wire that had no mark is marked
abbrev pub first_marked : (wire : ℕ) → Marks → Marks
first_marked w m = record { wires = set m.wires w true; registers = m.registers; found = m.found ++ w ∷ [] }

-- a wire is marked, where it is there
abbrev pub with_mark : (wire : ℕ) → Marks → Marks
with_mark w m = if get_or m.wires w true then m else first_marked w m

-- these wires are marked, where they are there
abbrev pub with_marks : (wires : List ℕ) → Marks → Marks
with_marks [] m = m
with_marks (w ∷ ws) m = with_marks ws (with_mark w m)

-- a register is marked, where it is there
abbrev pub with_register : (register : ℕ) → Marks → Marks
with_register k m = record { wires = m.wires; registers = set m.registers k true; found = m.found }

-- these registers are marked, where they are there
abbrev pub with_registers : (registers : List ℕ) → Marks → Marks
with_registers [] m = m
with_registers (k ∷ ks) m = with_registers ks (with_register k m)

-- the wire that a register takes, where it is there, and these behind it
abbrev pub with_next : Option Register → List ℕ → List ℕ
with_next None ws = ws
with_next (Some r) ws = r.next ∷ ws

-- the wires that registers with these numbers take
abbrev pub register_next_wires : List Register → (numbers : List ℕ) → List ℕ
register_next_wires rs [] = []
register_next_wires rs (k ∷ ks) = with_next (slice_get rs k) (register_next_wires rs ks)

-- the wires that come with a form: its operands, and the wire that the register takes which it shows
abbrev pub taken_wires : List Register → CellForm → List ℕ
taken_wires rs form = operands_of form ++ register_next_wires rs (registers_of form)

-- a register is marked, and the wire that it takes
abbrev pub with_held : List Register → (register : ℕ) → Marks → Marks
with_held rs k m = with_marks (register_next_wires rs (k ∷ [])) (with_registers (k ∷ []) m)

-- all that comes with a form is marked
abbrev pub with_taken : List Register → CellForm → Marks → Marks
with_taken rs form m = with_marks (taken_wires rs form) (with_registers (registers_of form) m)

-- all that comes with the form of a cell is marked, where there is a cell
abbrev pub with_cell_marked : List Register → Option Cell → Marks → Marks
with_cell_marked rs None m = m
with_cell_marked rs (Some c) m = with_taken rs c.form m

-- all that comes with the cell of a wire is marked, where there is a wire
abbrev pub with_wire : Net → Option ℕ → Marks → Marks
with_wire net None m = m
with_wire net (Some w) m = with_cell_marked net.registers (slice_get net.cells w) m
