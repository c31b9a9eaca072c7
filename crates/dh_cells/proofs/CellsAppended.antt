-- Cells that are appended leave what was known of the cells before as it was.
-- A cell stands at the same place of a longer list, so an equation of an old cell is one of the new cells, and what
-- settles the new ones settles the old ones: each fact of every way to settle is still one. In the same way the
-- operands of an old cell stay where they were.
use Rattle.std.proofs.Common.{◌≡◌, ℕ, ◌<◌, ◌≤◌, ◌⊎◌, inl, inr, Some, List, [], ◌∷◌, ◌++◌, length, refl, sym, ap, subst, ◌∙◌, arith, length-append}
use Rattle.std.specs.Prelude.{slice_get, slice_index, option_map}
use Rattle.std.proofs.Math.ListN.{get_or-append}
use Rattle.std.proofs.Math.Seq.{get_or-append_seam}
use Rattle.std.proofs.lemmas.Option.{slice_get_cases, slice_get_within, slice_get_read, get_or_from_slice_get}
use Rattle.dh_tree.specs.declared.tables.MemEntry.{MemEntry}
use Rattle.dh_net.specs.declared.nets.Register.{Register}
use Rattle.dh_net.specs.declared.nets.Cell.{Cell}
use Rattle.dh_net.specs.declared.nets.CellForm.{CellForm}
use Rattle.dh_net.specs.declared.nets.CellForm.TheVariants.{Const, Reg, Data, Add, Sub, Mul, And, Or, Xor, Shl, ShrU, ShrS, LtU, LtS, Eq, Mux, Zero, Sign, Low}
use Rattle.dh_net.specs.Valid.{HasWidth, IsOperand, IsAnyOperand, AreOperands, FormFits, IsCell}
use Rattle.dh_net.specs.Clock.{form_value, is_less_signed, sign_extended, width_in, wire_width}
use Rattle.dh_net.specs.BankPorts.{port_number}
use Rattle.dh_cells.specs.PlainCircuits.{PlainCircuit, with_cell, blank_registers, AreCells, IsNext}
use Rattle.dh_cells.specs.Settled.{Signals, IsMeasured, FitWidths, IsSettled, BeginsWith, Grows, IsWire, Shows, AreWires}

-- an element stays where it is
pub get_longer : {A : Type 0} (xs : List A) (x : A) (i : ℕ) (y : A) → slice_get xs i ≡ Some y → slice_get (xs ++ x ∷ []) i ≡ Some y
get_longer xs x i y at =
    let within = slice_get_within xs i y at in
    slice_get_read (xs ++ x ∷ []) _ i y refl (omega (arith, within, length-append xs (x ∷ []))) (sym (get_or-append xs (x ∷ []) y i within ∙ get_or_from_slice_get xs i y y at))

-- the new element stands at the end
pub get_last : {A : Type 0} (xs : List A) (x : A) → slice_get (xs ++ x ∷ []) (length xs) ≡ Some x
get_last xs x = slice_get_read (xs ++ x ∷ []) _ (length xs) x refl (omega (arith, length-append xs (x ∷ []))) (sym (get_or-append_seam xs x [] x))

-- an element of the longer list is an old one or the new one
pub get_either : {A : Type 0} (xs : List A) (x : A) (i : ℕ) (y : A) → slice_get (xs ++ x ∷ []) i ≡ Some y
    → (slice_get xs i ≡ Some y) ⊎ ((i ≡ length xs) × (x ≡ y))
get_either {A = A} xs x i y at =
    elim (slice_get_cases xs i).1 [
      | inl found ↦
          let e : ◌≡◌ {A = A} found.0 y = let l = get_longer xs x i found.0 found.2 in cc in
          inl (found.2 ∙ ap (λ z. Some z) e)
      | inr past ↦
          let here : i ≡ length xs = omega (arith, past.0, slice_get_within (xs ++ x ∷ []) i y at, length-append xs (x ∷ [])) in
          let e : ◌≡◌ {A = A} x y = let l = get_last xs x in cc in
          inr (here, e)
    ]

pub begins_longer : (cells : List Cell) (c : Cell) → BeginsWith (cells ++ c ∷ []) cells
begins_longer cells c i d at = get_longer cells c i d at

-- a wire that is there stays there, with its width
wire_later : (old new : List Cell) (a : ℕ) → BeginsWith new old → a < length old → (a < length new) × (wire_width new a ≡ wire_width old a)
wire_later old new a e inside =
    elim (slice_get_cases old a).1 [
      | inl found ↦
          let there = e a found.0 found.2 in
          (slice_get_within new a found.0 there, ap width_in there ∙ sym (ap width_in found.2))
      | inr past ↦ absurd (let beyond = past.0 in omega (arith, beyond, inside))
    ]

pub measured_later : (old new : List Cell) (f : CellForm) → BeginsWith new old → IsMeasured old f → IsMeasured new f
measured_later old new (Const bits) e h = tt
measured_later old new (Reg register) e h = tt
measured_later old new (Data memory bank port) e h = tt
measured_later old new (Add a b) e h = tt
measured_later old new (Sub a b) e h = tt
measured_later old new (Mul a b) e h = tt
measured_later old new (And a b) e h = tt
measured_later old new (Or a b) e h = tt
measured_later old new (Xor a b) e h = tt
measured_later old new (Shl a b) e h = tt
measured_later old new (ShrU a b) e h = tt
measured_later old new (ShrS a b) e h = tt
measured_later old new (LtU a b) e h = tt
measured_later old new (LtS a b) e h = (wire_later old new a e h).0
measured_later old new (Eq a b) e h = tt
measured_later old new (Mux c a b) e h = tt
measured_later old new (Zero a) e h = tt
measured_later old new (Sign a) e h = (wire_later old new a e h).0
measured_later old new (Low a) e h = tt

-- so a form has one value among the old cells and among the new
pub value_later : (old new : PlainCircuit) → Grows old new → (rs hs ws : List ℕ) (width : ℕ) (f : CellForm) → IsMeasured old.cells f
    → form_value new.table new.cells rs hs ws width f ≡ form_value old.table old.cells rs hs ws width f
value_later old new g rs hs ws width (Const bits) h = refl
value_later old new g rs hs ws width (Reg register) h = refl
value_later old new g rs hs ws width (Data memory bank port) h = ap (λ t. slice_index hs (port_number t memory bank port)) g.table
value_later old new g rs hs ws width (Add a b) h = refl
value_later old new g rs hs ws width (Sub a b) h = refl
value_later old new g rs hs ws width (Mul a b) h = refl
value_later old new g rs hs ws width (And a b) h = refl
value_later old new g rs hs ws width (Or a b) h = refl
value_later old new g rs hs ws width (Xor a b) h = refl
value_later old new g rs hs ws width (Shl a b) h = refl
value_later old new g rs hs ws width (ShrU a b) h = refl
value_later old new g rs hs ws width (ShrS a b) h = refl
value_later old new g rs hs ws width (LtU a b) h = refl
value_later old new g rs hs ws width (LtS a b) h = ap (λ w. is_less_signed w (slice_index ws a) (slice_index ws b)) (wire_later old.cells new.cells a g.cells h).1
value_later old new g rs hs ws width (Eq a b) h = refl
value_later old new g rs hs ws width (Mux c a b) h = refl
value_later old new g rs hs ws width (Zero a) h = refl
value_later old new g rs hs ws width (Sign a) h = ap (λ w. sign_extended w width (slice_index ws a)) (wire_later old.cells new.cells a g.cells h).1
value_later old new g rs hs ws width (Low a) h = refl

-- what a form that fits measures is there
pub measured_by_fit : (table : List MemEntry) (registers : List Register) (cells : List Cell) (i width : ℕ) (f : CellForm) → i ≤ length cells
    → FormFits table registers cells i width f → IsMeasured cells f
measured_by_fit table registers cells i width (Const bits) few h = tt
measured_by_fit table registers cells i width (Reg register) few h = tt
measured_by_fit table registers cells i width (Data memory bank port) few h = tt
measured_by_fit table registers cells i width (Add a b) few h = tt
measured_by_fit table registers cells i width (Sub a b) few h = tt
measured_by_fit table registers cells i width (Mul a b) few h = tt
measured_by_fit table registers cells i width (And a b) few h = tt
measured_by_fit table registers cells i width (Or a b) few h = tt
measured_by_fit table registers cells i width (Xor a b) few h = tt
measured_by_fit table registers cells i width (Shl a b) few h = tt
measured_by_fit table registers cells i width (ShrU a b) few h = tt
measured_by_fit table registers cells i width (ShrS a b) few h = tt
measured_by_fit table registers cells i width (LtU a b) few h = tt
measured_by_fit table registers cells i width (LtS a b) few h = let less = h.1.1.left.earlier in omega (arith, few, less)
measured_by_fit table registers cells i width (Eq a b) few h = tt
measured_by_fit table registers cells i width (Mux c a b) few h = tt
measured_by_fit table registers cells i width (Zero a) few h = tt
measured_by_fit table registers cells i width (Sign a) few h = let less = h.1.0.earlier in omega (arith, few, less)
measured_by_fit table registers cells i width (Low a) few h = tt

-- a width stays one
width_from : (old new : List Cell) (wire width : ℕ) → BeginsWith new old → (c : Cell) → slice_get old wire ≡ Some c → HasWidth old wire width
    → HasWidth new wire width
width_from old new wire width e c at h =
    let there = e wire c at in
    ap (option_map (λ c. c.width)) there ∙ (sym (ap (option_map (λ c. c.width)) at) ∙ h)

pub width_later : (old new : List Cell) (wire width : ℕ) → BeginsWith new old → HasWidth old wire width → HasWidth new wire width
width_later old new wire width e h =
    elim (slice_get_cases old wire).1 [
      | inl found ↦ width_from old new wire width e found.0 found.2 h
      | inr past ↦ absurd (let none = past.1 in cc)
    ]

operand_later : (old new : List Cell) (i wire width : ℕ) → BeginsWith new old → IsOperand old i wire width → IsOperand new i wire width
operand_later old new i wire width e h = record { earlier = h.earlier; wide = width_later old new wire width e h.wide }

operands_later : (old new : List Cell) (i a b width : ℕ) → BeginsWith new old → AreOperands old i a b width → AreOperands new i a b width
operands_later old new i a b width e h =
    record { left = operand_later old new i a width e h.left; right = operand_later old new i b width e h.right }

shifted_later : (old new : List Cell) (i a b width : ℕ) → BeginsWith new old → IsOperand old i a width × IsAnyOperand old i b
    → IsOperand new i a width × IsAnyOperand new i b
shifted_later old new i a b width e h = (operand_later old new i a width e h.0, (h.1.0, operand_later old new i b h.1.0 e h.1.1))

-- a form fits still
pub fits_later : (table : List MemEntry) (registers : List Register) (old new : List Cell) (i width : ℕ) (f : CellForm) → BeginsWith new old
    → FormFits table registers old i width f → FormFits table registers new i width f
fits_later table registers old new i width (Const bits) e h = h
fits_later table registers old new i width (Reg register) e h = h
fits_later table registers old new i width (Data memory bank port) e h = h
fits_later table registers old new i width (Add a b) e h = operands_later old new i a b width e h
fits_later table registers old new i width (Sub a b) e h = operands_later old new i a b width e h
fits_later table registers old new i width (Mul a b) e h = operands_later old new i a b width e h
fits_later table registers old new i width (And a b) e h = operands_later old new i a b width e h
fits_later table registers old new i width (Or a b) e h = operands_later old new i a b width e h
fits_later table registers old new i width (Xor a b) e h = operands_later old new i a b width e h
fits_later table registers old new i width (Shl a b) e h = shifted_later old new i a b width e h
fits_later table registers old new i width (ShrU a b) e h = shifted_later old new i a b width e h
fits_later table registers old new i width (ShrS a b) e h = shifted_later old new i a b width e h
fits_later table registers old new i width (LtU a b) e h = (h.0, (h.1.0, operands_later old new i a b h.1.0 e h.1.1))
fits_later table registers old new i width (LtS a b) e h = (h.0, (h.1.0, operands_later old new i a b h.1.0 e h.1.1))
fits_later table registers old new i width (Eq a b) e h = (h.0, (h.1.0, operands_later old new i a b h.1.0 e h.1.1))
fits_later table registers old new i width (Mux c a b) e h = (operand_later old new i c 1 e h.0, operands_later old new i a b width e h.1)
fits_later table registers old new i width (Zero a) e h = (h.0, (operand_later old new i a h.0 e h.1.0, h.1.1))
fits_later table registers old new i width (Sign a) e h = (h.0, (operand_later old new i a h.0 e h.1.0, h.1.1))
fits_later table registers old new i width (Low a) e h = (h.0, (operand_later old new i a h.0 e h.1.0, h.1.1))

pub cell_later : (table : List MemEntry) (registers : List Register) (old new : List Cell) (i : ℕ) (c : Cell) → BeginsWith new old
    → IsCell table registers old i c → IsCell table registers new i c
cell_later table registers old new i c e h =
    record { least = h.least; greatest = h.greatest; form = fits_later table registers old new i c.width c.form e h.form }

-- the cells are valid with the next one
pub cells_more : (d : PlainCircuit) (c : Cell) → AreCells d → IsNext d c.width c.form → AreCells (with_cell d c)
cells_more d c all next i x at =
    let e = begins_longer d.cells c in
    let registers = blank_registers d.widths in
    elim (get_either d.cells c i x at) [
      | inl old ↦ cell_later d.table registers d.cells (d.cells ++ c ∷ []) i x e (all i x old)
      | inr last ↦
          let new : IsCell d.table registers (d.cells ++ c ∷ []) (length d.cells) c
          = record { least = next.least; greatest = next.greatest; form = fits_later d.table registers d.cells (d.cells ++ c ∷ []) (length d.cells) c.width c.form e next.fits } in
          subst (λ (n : ℕ). IsCell d.table registers (d.cells ++ c ∷ []) n x) (sym last.0)
          (subst (λ (y : Cell). IsCell d.table registers (d.cells ++ c ∷ []) (length d.cells) y) last.1 new)
    ]

-- what fits the widths still does
fit_fewer : (old new : PlainCircuit) (x : Signals) → Grows old new → FitWidths new.table new.widths x.registers x.held → FitWidths old.table old.widths x.registers x.held
fit_fewer old new x g f =
    subst (λ (t : List MemEntry). FitWidths t old.widths x.registers x.held) g.table
    (subst (λ (w : List ℕ). FitWidths new.table w x.registers x.held) g.widths f)

-- what settles more cells settles fewer
pub settled_fewer : (old new : PlainCircuit) (x : Signals) → Grows old new → IsSettled new x → IsSettled old x
settled_fewer old new x g s = record {
  fit = fit_fewer old new x g s.fit;
  cells = λ i c at measured.
      s.cells i c (g.cells i c at) (measured_later old.cells new.cells c.form g.cells measured) ∙ value_later old new g x.registers x.held x.wires c.width c.form measured;
}

-- a wire stays one
pub wire_stays : (old new : PlainCircuit) (wire width : ℕ) → Grows old new → IsWire old wire width → IsWire new wire width
wire_stays old new wire width g h = record {
  wide = width_later old.cells new.cells wire width g.cells h.wide;
  least = h.least;
  greatest = h.greatest;
  fits = λ x s. h.fits x (settled_fewer old new x g s);
}

pub wires_stay : (old new : PlainCircuit) (wires : List ℕ) (width : ℕ) → Grows old new → AreWires old wires width → AreWires new wires width
wires_stay old new [] width g h = tt
wires_stay old new (w ∷ ws) width g h = (wire_stays old new w width g h.0, wires_stay old new ws width g h.1)

-- and shows what it did
pub shows_later : (old new : PlainCircuit) (wire width : ℕ) (value : Signals → ℕ) → Grows old new → Shows old wire width value → Shows new wire width value
shows_later old new wire width value g h = record {
  there = wire_stays old new wire width g h.there;
  is = λ x s. h.is x (settled_fewer old new x g s);
}

-- one growth after another
pub grows_then : (a b c : PlainCircuit) → Grows a b → Grows b c → Grows a c
grows_then a b c g h = record { table = h.table ∙ g.table; widths = h.widths ∙ g.widths; cells = λ i d at. h.cells i d (g.cells i d at) }

pub grows_none : (a : PlainCircuit) → Grows a a
grows_none a = record { table = refl; widths = refl; cells = λ i d at. at }

pub grows_one : (d : PlainCircuit) (c : Cell) → Grows d (with_cell d c)
grows_one d c = record { table = refl; widths = refl; cells = begins_longer d.cells c }
