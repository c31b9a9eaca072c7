-- Registers of the circuit's widths suit its cells: a cell asks of a register for its width alone.
use Rattle.std.proofs.Common.{◌≡◌, ℕ, zero, suc, List, [], ◌∷◌, map, refl, sym, ap, subst, ◌∙◌}
use Rattle.std.specs.Prelude.{slice_get, option_map}
use Rattle.dh_tree.specs.declared.tables.MemEntry.{MemEntry}
use Rattle.dh_net.specs.declared.nets.Register.{Register}
use Rattle.dh_net.specs.declared.nets.Cell.{Cell}
use Rattle.dh_net.specs.declared.nets.CellForm.{CellForm}
use Rattle.dh_net.specs.declared.nets.CellForm.TheVariants.{Const, Reg, Data, Add, Sub, Mul, And, Or, Xor, Shl, ShrU, ShrS, LtU, LtS, Eq, Mux, Zero, Sign, Low}
use Rattle.dh_net.specs.Valid.{FormFits}
use Rattle.dh_cells.specs.PlainCircuits.{PlainCircuit, blank_registers, AreCells, SuitRegisters}

abbrev width_of_register : Register → ℕ
width_of_register r = r.width

-- the width of a register at a place, by the list of widths
width_there : (registers : List Register) (i : ℕ) → option_map width_of_register (slice_get registers i) ≡ slice_get (map width_of_register registers) i
width_there [] i = refl
width_there (r ∷ rs) zero = refl
width_there (r ∷ rs) (suc i) = width_there rs i

widths_of_blank : (widths : List ℕ) → map width_of_register (blank_registers widths) ≡ widths
widths_of_blank [] = refl
widths_of_blank (w ∷ ws) = ap (λ l. w ∷ l) (widths_of_blank ws)

same_widths : (registers : List Register) (widths : List ℕ) (i : ℕ) → map width_of_register registers ≡ widths
    → option_map width_of_register (slice_get registers i) ≡ option_map width_of_register (slice_get (blank_registers widths) i)
same_widths registers widths i e =
    width_there registers i
    ∙ (ap (λ (l : List ℕ). slice_get l i) (e ∙ sym (widths_of_blank widths)) ∙ sym (width_there (blank_registers widths) i))

form_suits : (table : List MemEntry) (registers : List Register) (widths : List ℕ) (cells : List Cell) (i width : ℕ) (f : CellForm)
    → map width_of_register registers ≡ widths → FormFits table (blank_registers widths) cells i width f → FormFits table registers cells i width f
form_suits table registers widths cells i width (Const bits) e h = h
form_suits table registers widths cells i width (Reg register) e h = same_widths registers widths register e ∙ h
form_suits table registers widths cells i width (Data memory bank port) e h = h
form_suits table registers widths cells i width (Add a b) e h = h
form_suits table registers widths cells i width (Sub a b) e h = h
form_suits table registers widths cells i width (Mul a b) e h = h
form_suits table registers widths cells i width (And a b) e h = h
form_suits table registers widths cells i width (Or a b) e h = h
form_suits table registers widths cells i width (Xor a b) e h = h
form_suits table registers widths cells i width (Shl a b) e h = h
form_suits table registers widths cells i width (ShrU a b) e h = h
form_suits table registers widths cells i width (ShrS a b) e h = h
form_suits table registers widths cells i width (LtU a b) e h = h
form_suits table registers widths cells i width (LtS a b) e h = h
form_suits table registers widths cells i width (Eq a b) e h = h
form_suits table registers widths cells i width (Mux c a b) e h = h
form_suits table registers widths cells i width (Zero a) e h = h
form_suits table registers widths cells i width (Sign a) e h = h
form_suits table registers widths cells i width (Low a) e h = h

pub suit : (d : PlainCircuit) → AreCells d → SuitRegisters d
suit d all registers e i c at =
    let cell = all i c at in
    record { least = cell.least; greatest = cell.greatest; form = form_suits d.table registers d.widths d.cells i c.width c.form e cell.form }

-- the same where the circuit goes by another name
pub suit_as : (d e : PlainCircuit) → e ≡ d → AreCells e → SuitRegisters d
suit_as d e same all = subst (λ (y : PlainCircuit). SuitRegisters y) same (suit e all)
