-- Each wire of a circuit shows no more bits than its width, where registers and held data do.
-- By induction on the wires: what a form gives fits, where the wires before it do, as in every net (`form_fits`).
use Rattle.std.proofs.Common.{◌≡◌, ℕ, zero, suc, ◌<◌, ◌^◌, inl, inr, Some, List, [], ◌∷◌, ◌++◌, length, get_or, refl, sym, ap, subst, ◌∙◌, arith}
use Rattle.std.specs.Prelude.{slice_get, option_map}
use Rattle.std.proofs.lemmas.Option.{slice_get_within, slice_get_read}
use Rattle.dh_net.specs.declared.nets.Register.{Register}
use Rattle.dh_net.specs.declared.nets.Cell.{Cell}
use Rattle.dh_net.specs.declared.nets.CellForm.{CellForm}
use Rattle.dh_net.specs.declared.nets.Net.{Net}
use Rattle.dh_net.specs.Clock.{State}
use Rattle.dh_net.specs.Laws.{FitsNet}
use Rattle.dh_net.proofs.Valuations.{FitBelow, form_fits, below_suc}
use Rattle.dh_tree.specs.declared.tables.MemEntry.{MemEntry}
use Rattle.dh_cells.specs.PlainCircuits.{AddsAtMost, PlainCircuit, circuit_of, with_cell, blank_register, blank_registers, AreCells, IsCircuit, IsWireOfForm, IsNext}
use Rattle.dh_cells.specs.Settled.{Signals, IsSettled, Adds}
use Rattle.dh_cells.specs.ShownValues.{form_shown}
use Rattle.dh_cells.proofs.CellsAppended.{get_last, measured_by_fit, measured_later, value_later, cells_more, grows_one, grows_none}
use Rattle.dh_cells.proofs.NarrowCells.{circuit_more}
use Rattle.dh_net.specs.Parts.{one_cell}

-- the circuit as a net without drivers
abbrev net_of : PlainCircuit → Net
net_of d = record {
  table = d.table;
  faults = [];
  registers = blank_registers d.widths;
  cells = d.cells;
  drivers = [];
  tick = 0;
  done = 0;
  fault = 0;
}

abbrev state_of : Signals → State
state_of x = record { registers = x.registers; held = x.held; memories = [] }

-- a blank register has its width
blank_width : (widths : List ℕ) (i : ℕ) (r : Register) → slice_get (blank_registers widths) i ≡ Some r → slice_get widths i ≡ Some r.width
blank_width [] i r at = absurd (cc)
blank_width (w ∷ ws) zero r at = let same : blank_register w ≡ r = cc in ap (λ (x : Register). Some x.width) same
blank_width (w ∷ ws) (suc i) r at = blank_width ws i r at

fits_net : (d : PlainCircuit) (x : Signals) → IsSettled d x → FitsNet (net_of d) (state_of x)
fits_net d x s = record {
  registers = λ i r at. s.fit.registers_fit i r.width (blank_width d.widths i r at);
  held = s.fit.held_fit;
}

fit_below : (d : PlainCircuit) → AreCells d → (x : Signals) → IsSettled d x → (n : ℕ) → FitBelow d.cells n x.wires
fit_below d all x s zero k c small at = absurd (omega (arith, small))
fit_below d all x s (suc n) k c small at =
    elim (below_suc k n small) [
      | inl before ↦ fit_below d all x s n k c before at
      | inr here ↦
          let cell = all k c at in
          let inside = slice_get_within d.cells k c at in
          let measured = measured_by_fit d.table (blank_registers d.widths) d.cells k c.width c.form (omega (arith, inside)) cell.form in
          subst (λ (v : ℕ). v < 2 ^ c.width) (sym (s.cells k c at measured))
          (form_fits (net_of d) (state_of x) x.wires (fits_net d x s) k c.width c.form cell.form
          (λ j y before. fit_below d all x s n j y (omega (arith, here, before))))
    ]

-- what the next cell adds
pub adds_cell : (d : PlainCircuit) (c : Cell) → AreCells d → IsNext d c.width c.form
    → Adds d (with_cell d c) (length d.cells) c.width (form_shown d c.width c.form)
adds_cell d c all next =
    let grown = grows_one d c in
    let registers = blank_registers d.widths in
    let measured = measured_by_fit d.table registers d.cells (length d.cells) c.width c.form (omega arith) next.fits in
    let more = cells_more d c all next in
    record {
      grows = grown;
      shows = record {
        there = record {
          wide = ap (option_map (λ (y : Cell). y.width)) (get_last d.cells c);
          least = next.least;
          greatest = next.greatest;
          fits = λ x s. fit_below (with_cell d c) more x s (suc (length d.cells)) (length d.cells) c (omega arith) (get_last d.cells c);
        };
        is = λ x s.
            s.cells (length d.cells) c (get_last d.cells c) (measured_later d.cells (d.cells ++ c ∷ []) c.form grown.cells measured)
            ∙ value_later d (with_cell d c) grown x.registers x.held x.wires c.width c.form measured;
      };
    }

-- the same where the circuit and the new cells go by other names
pub valid_push : (d : PlainCircuit) (table : List MemEntry) (widths : List ℕ) (cells new : List Cell) (width : ℕ) (form : CellForm)
    → circuit_of table widths cells ≡ d → new ≡ cells ++ one_cell width form ∷ [] → IsCircuit (circuit_of table widths cells) → IsNext d width form
    → IsCircuit (circuit_of table widths new)
valid_push d table widths cells new width form view more all next =
    subst (λ (y : List Cell). IsCircuit (circuit_of table widths y)) (sym more)
    (circuit_more (circuit_of table widths cells) (one_cell width form) all (subst (λ (y : PlainCircuit). IsNext y width form) (sym view) next))

pub adds_push : (d : PlainCircuit) (table : List MemEntry) (widths : List ℕ) (cells new : List Cell) (wire width : ℕ) (form : CellForm)
    → circuit_of table widths cells ≡ d → new ≡ cells ++ one_cell width form ∷ [] → wire ≡ length cells → IsCircuit (circuit_of table widths cells)
    → IsNext d width form → Adds d (circuit_of table widths new) wire width (form_shown d width form)
adds_push d table widths cells new wire width form view more last all next =
    let before = circuit_of table widths cells in
    subst (λ (y : PlainCircuit). Adds y (circuit_of table widths new) wire width (form_shown y width form)) view
    (subst (λ (y : List Cell). Adds before (circuit_of table widths y) wire width (form_shown before width form)) (sym more)
    (subst (λ (n : ℕ). Adds before (with_cell before (one_cell width form)) n width (form_shown before width form)) (sym last)
    (adds_cell before (one_cell width form) all.cells (subst (λ (y : PlainCircuit). IsNext y width form) (sym view) next))))

-- a cell that is there shows what it computes
pub cell_there : (d : PlainCircuit) (wire width : ℕ) (form : CellForm) → AreCells d → slice_get d.cells wire ≡ Some (one_cell width form) → Adds d d wire width (form_shown d width form)
cell_there d wire width form all at =
    let cell = all wire (one_cell width form) at in
    let inside = slice_get_within d.cells wire (one_cell width form) at in
    let measured = measured_by_fit d.table (blank_registers d.widths) d.cells wire width form (omega (arith, inside)) cell.form in
    record {
      grows = grows_none d;
      shows = record {
        there = record {
          wide = ap (option_map (λ (y : Cell). y.width)) at;
          least = cell.least;
          greatest = cell.greatest;
          fits = λ x s. fit_below d all x s (suc wire) wire (one_cell width form) (omega arith) at;
        };
        is = λ x s. s.cells wire (one_cell width form) at measured;
      };
    }

-- the same of a cell that was looked up, where the circuit and its cells go by other names
pub cell_found : (d : PlainCircuit) (table : List MemEntry) (widths : List ℕ) (cells list : List Cell) (wire width : ℕ) (form : CellForm) (cell : Cell)
    → circuit_of table widths cells ≡ d → IsCircuit (circuit_of table widths cells) → list ≡ cells → wire < length list → cell ≡ get_or list wire cell
    → cell ≡ one_cell width form → Adds d d wire width (form_shown d width form)
cell_found d table widths cells list wire width form cell view all same inside is found =
    let at : slice_get list wire ≡ Some cell = slice_get_read list _ wire cell refl inside is in
    let there : slice_get cells wire ≡ Some (one_cell width form) = ap (λ (l : List Cell). slice_get l wire) (sym same) ∙ (at ∙ ap (λ (y : Cell). Some y) found) in
    subst (λ (y : PlainCircuit). Adds y y wire width (form_shown y width form)) view (cell_there (circuit_of table widths cells) wire width form all.cells there)

-- and it was made
pub made_found : (d : PlainCircuit) (table : List MemEntry) (widths : List ℕ) (cells list : List Cell) (wire width : ℕ) (form : CellForm) (cell : Cell)
    → circuit_of table widths cells ≡ d → list ≡ cells → wire < length list → cell ≡ get_or list wire cell → cell ≡ one_cell width form → IsWireOfForm d wire width form
made_found d table widths cells list wire width form cell view same inside is found =
    let at : slice_get list wire ≡ Some cell = slice_get_read list _ wire cell refl inside is in
    subst (λ (y : PlainCircuit). IsWireOfForm y wire width form) view (ap (λ (l : List Cell). slice_get l wire) (sym same) ∙ (at ∙ ap (λ (y : Cell). Some y) found))

-- so was the cell that was appended
pub made_push : (table : List MemEntry) (widths : List ℕ) (cells new : List Cell) (wire width : ℕ) (form : CellForm) → new ≡ cells ++ one_cell width form ∷ [] → wire ≡ length cells
    → IsWireOfForm (circuit_of table widths new) wire width form
made_push table widths cells new wire width form more last =
    ap (λ (n : ℕ). slice_get new n) last ∙ (ap (λ (l : List Cell). slice_get l (length cells)) more ∙ get_last cells (one_cell width form))

-- and nothing else
pub adds_one : (d : PlainCircuit) (table : List MemEntry) (widths : List ℕ) (cells new : List Cell) (width : ℕ) (form : CellForm)
    → circuit_of table widths cells ≡ d → new ≡ cells ++ one_cell width form ∷ [] → AddsAtMost d (circuit_of table widths new) width form
adds_one d table widths cells new width form view more =
    subst (λ (y : PlainCircuit). AddsAtMost y (circuit_of table widths new) width form) view
    (record { either = inr (ap (λ (l : List Cell). circuit_of table widths l) more) })
