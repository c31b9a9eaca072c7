-- Shifts of a circuit stay narrow when cells are appended, and a wire that is a constant shows its bits.
-- The amount of a shift is a wire of an earlier cell, so it is the same constant among the new cells, or still none.
use Rattle.std.proofs.Common.{◌≡◌, ℕ, ◌<◌, ◌≤◌, inl, inr, Some, None, List, [], ◌∷◌, ◌++◌, length, refl, sym, ap, subst, ◌∙◌}
use Rattle.std.specs.Prelude.{Option, slice_get, IfSome}
use Rattle.dh_tree.specs.declared.tables.MemEntry.{MemEntry}
use Rattle.dh_net.specs.declared.nets.Register.{Register}
use Rattle.dh_net.specs.declared.nets.Cell.{Cell}
use Rattle.dh_net.specs.declared.nets.CellForm.{CellForm}
use Rattle.dh_net.specs.declared.nets.CellForm.TheVariants.{Const, Reg, Data, Add, Sub, Mul, And, Or, Xor, Shl, ShrU, ShrS, LtU, LtS, Eq, Mux, Zero, Sign, Low}
use Rattle.dh_net.specs.Clock.{form_value}
use Rattle.dh_net.specs.Valid.{HasWidth, FormFits}
use Rattle.dh_net.proofs.Valuations.{cell_of}
use Rattle.dh_cells.specs.NarrowShifts.{form_bits, cell_bits, constant_at, IsBelow, ShiftsLess, HasNarrowShifts}
use Rattle.dh_cells.specs.PlainCircuits.{PlainCircuit, with_cell, blank_registers, IsCircuit, IsNext}
use Rattle.dh_cells.specs.Settled.{Signals, shown, IsMeasured, IsSettled, BeginsWith}
use Rattle.dh_cells.proofs.CellsAppended.{get_either, begins_longer, cells_more}

pub below_later : (old new : List Cell) (wire bound wide : ℕ) → BeginsWith new old → HasWidth old wire wide → IsBelow old wire bound → IsBelow new wire bound
below_later old new wire bound wide e h below =
    let c = cell_of old wire wide h in
    subst (λ (o : Option Cell). IfSome (cell_bits o) (λ (bits : ℕ). bits < bound)) (c.1.0 ∙ sym (e wire c.0 c.1.0)) below

pub shifts_later : (table : List MemEntry) (registers : List Register) (old new : List Cell) (i width : ℕ) (f : CellForm) → BeginsWith new old
    → FormFits table registers old i width f → ShiftsLess old width f → ShiftsLess new width f
shifts_later table registers old new i width (Const bits) e h s = tt
shifts_later table registers old new i width (Reg register) e h s = tt
shifts_later table registers old new i width (Data memory bank port) e h s = tt
shifts_later table registers old new i width (Add a b) e h s = tt
shifts_later table registers old new i width (Sub a b) e h s = tt
shifts_later table registers old new i width (Mul a b) e h s = tt
shifts_later table registers old new i width (And a b) e h s = tt
shifts_later table registers old new i width (Or a b) e h s = tt
shifts_later table registers old new i width (Xor a b) e h s = tt
shifts_later table registers old new i width (Shl a b) e h s = below_later old new b width h.1.0 e h.1.1.wide s
shifts_later table registers old new i width (ShrU a b) e h s = below_later old new b width h.1.0 e h.1.1.wide s
shifts_later table registers old new i width (ShrS a b) e h s = below_later old new b width h.1.0 e h.1.1.wide s
shifts_later table registers old new i width (LtU a b) e h s = tt
shifts_later table registers old new i width (LtS a b) e h s = tt
shifts_later table registers old new i width (Eq a b) e h s = tt
shifts_later table registers old new i width (Mux c a b) e h s = tt
shifts_later table registers old new i width (Zero a) e h s = tt
shifts_later table registers old new i width (Sign a) e h s = tt
shifts_later table registers old new i width (Low a) e h s = tt

shifts_more : (d : PlainCircuit) (c : Cell) → IsCircuit d → IsNext d c.width c.form → HasNarrowShifts (d.cells ++ c ∷ [])
shifts_more d c all next i x at =
    let registers = blank_registers d.widths in
    let e = begins_longer d.cells c in
    elim (get_either d.cells c i x at) [
      | inl old ↦ shifts_later d.table registers d.cells (d.cells ++ c ∷ []) i x.width x.form e (all.cells i x old).form (all.shifts i x old)
      | inr last ↦
          subst (λ (y : Cell). ShiftsLess (d.cells ++ c ∷ []) y.width y.form) last.1
          (shifts_later d.table registers d.cells (d.cells ++ c ∷ []) (length d.cells) c.width c.form e next.fits next.shifts)
    ]

-- a circuit with the next cell
pub circuit_more : (d : PlainCircuit) (c : Cell) → IsCircuit d → IsNext d c.width c.form → IsCircuit (with_cell d c)
circuit_more d c all next = record { cells = cells_more d c all.cells next; shifts = shifts_more d c all next }

-- where the circuit goes by another name
pub shifts_as : (d e : PlainCircuit) → e ≡ d → IsCircuit e → HasNarrowShifts d.cells
shifts_as d e same all = subst (λ (y : PlainCircuit). HasNarrowShifts y.cells) same all.shifts

-- Constants.

form_of_bits : (f : CellForm) (bits : ℕ) → form_bits f ≡ Some bits → f ≡ Const bits
form_of_bits (Const n) bits e = (let same : n ≡ bits = cc in ap (λ (m : ℕ). Const m) same)
form_of_bits (Reg register) bits e = absurd (cc)
form_of_bits (Data memory bank port) bits e = absurd (cc)
form_of_bits (Add a b) bits e = absurd (cc)
form_of_bits (Sub a b) bits e = absurd (cc)
form_of_bits (Mul a b) bits e = absurd (cc)
form_of_bits (And a b) bits e = absurd (cc)
form_of_bits (Or a b) bits e = absurd (cc)
form_of_bits (Xor a b) bits e = absurd (cc)
form_of_bits (Shl a b) bits e = absurd (cc)
form_of_bits (ShrU a b) bits e = absurd (cc)
form_of_bits (ShrS a b) bits e = absurd (cc)
form_of_bits (LtU a b) bits e = absurd (cc)
form_of_bits (LtS a b) bits e = absurd (cc)
form_of_bits (Eq a b) bits e = absurd (cc)
form_of_bits (Mux c a b) bits e = absurd (cc)
form_of_bits (Zero a) bits e = absurd (cc)
form_of_bits (Sign a) bits e = absurd (cc)
form_of_bits (Low a) bits e = absurd (cc)

constant_shows : (d : PlainCircuit) (wire bits : ℕ) → constant_at d.cells wire ≡ Some bits → (x : Signals) → IsSettled d x → shown x wire ≡ bits
constant_shows d wire bits e x s = by (slice_get d.cells wire) refl e
  where
    by : (o : Option Cell) → slice_get d.cells wire ≡ o → cell_bits o ≡ Some bits → shown x wire ≡ bits
    by None at f = absurd (cc)
    by (Some c) at f =
        let is : c.form ≡ Const bits = form_of_bits c.form bits f in
        s.cells wire c at (subst (λ (g : CellForm). IsMeasured d.cells g) (sym is) tt)
        ∙ ap (λ (g : CellForm). form_value d.table d.cells x.registers x.held x.wires c.width g) is

-- the same of a constant that was asked for
pub constant_reaches : (d : PlainCircuit) (wire bits least : ℕ) (found : Option ℕ) → found ≡ constant_at d.cells wire → found ≡ Some bits → least ≤ bits
    → (x : Signals) → IsSettled d x → least ≤ shown x wire
constant_reaches d wire bits least found asked is more x s = subst (λ (n : ℕ). least ≤ n) (sym (constant_shows d wire bits (sym asked ∙ is) x s)) more

pub constant_below : (cells : List Cell) (wire bits bound : ℕ) (found : Option ℕ) → found ≡ constant_at cells wire → found ≡ Some bits → bits < bound → IsBelow cells wire bound
constant_below cells wire bits bound found asked is less = subst (λ (o : Option ℕ). IfSome o (λ (n : ℕ). n < bound)) (sym is ∙ asked) less

pub no_constant : (cells : List Cell) (wire bound : ℕ) (found : Option ℕ) → found ≡ constant_at cells wire → found ≡ None → IsBelow cells wire bound
no_constant cells wire bound found asked is = subst (λ (o : Option ℕ). IfSome o (λ (n : ℕ). n < bound)) (sym is ∙ asked) tt
