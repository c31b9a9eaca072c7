-- The lines of registers, wires and updates tell what they declare.
use Rattle.std.proofs.Common.{◌≡◌, ℕ, ◌+◌, ◌-◌, ◌<◌, ◌≤◌, ◌^◌, List, [], ◌∷◌, ◌++◌, ◌∙◌, ap, sym, refl, append_assoc, arith}
use Rattle.std.specs.Prelude.{codes, slice_index}
use Rattle.std.specs.List.{AllByRecursion}
use Rattle.std.specs.Fmt.{decimal}
use Rattle.std.proofs.lemmas.List.{append_cancel_left}
use Rattle.dh_net.specs.declared.nets.Cell.{Cell}
use Rattle.dh_net.specs.declared.nets.CellForm.{CellForm}
use Rattle.dh_net.specs.declared.nets.Register.{Register}
use Rattle.dh_verilog.specs.Listed.{each_numbered}
use Rattle.dh_verilog.specs.Text.{register_line, form_text, cell_line, update_line}
use Rattle.dh_verilog.proofs.Shapes.{Piece, fixed, numeral, same_line}
use Rattle.dh_verilog.proofs.Lines.{Begins, Tells}
use Rattle.dh_verilog.proofs.Forms.{HasSmall, same_form}

-- nothing is asked of what follows a line
abbrev pub Anything : List ℕ → Type 0
Anything x = Unit {0}

-- the width is from 1 to 64, and the numbers are below 2^64
pub record IsSmallRegister (r : Register) : Type 0 where
  pub least : 1 ≤ r.width
  pub greatest : r.width ≤ 64
  pub initial : r.initial < 2 ^ 64
  pub next : r.next < 2 ^ 64

pub record IsSmallCell (cells : List Cell) (c : Cell) : Type 0 where
  pub least : 1 ≤ c.width
  pub greatest : c.width ≤ 64
  pub form : HasSmall cells c.form

small_width : (w : ℕ) → w ≤ 64 → w < 2 ^ 64
small_width w h = omega arith

one_less : (v w : ℕ) → 1 ≤ v → 1 ≤ w → v - 1 ≡ w - 1 → v ≡ w
one_less v w hv hw e = omega arith

-- the declaration tells the width and the initial value
abbrev pub StartsAlike : Register → Register → Type 0
StartsAlike r s = (r.width ≡ s.width) × (r.initial ≡ s.initial)

abbrev pub StepsAlike : Register → Register → Type 0
StepsAlike r s = r.next ≡ s.next

abbrev register_pieces : ℕ → Register → List Piece
register_pieces i r =
    fixed (codes "  reg [") ∷ (numeral (r.width - 1) ∷ (fixed (codes ":0] r") ∷ (fixed (decimal i) ∷ (fixed (codes " = ") ∷ (numeral r.width ∷ (fixed (codes "'d") ∷ (numeral r.initial ∷ (fixed (codes ";\n") ∷ []))))))))

pub register_begins : Begins register_line 2 114 Anything
register_begins = record { byte = λ i r x. refl; next = λ i r x. tt }

pub register_tells : Tells register_line IsSmallRegister StartsAlike Anything
register_tells i r s x y hr hs nx ny e =
    let r1 : r.width - 1 < 2 ^ 64 = omega arith in
    let s1 : s.width - 1 < 2 ^ 64 = omega arith in
    let t = same_line (register_pieces i r) (register_pieces i s) [] [] x y
    (refl, (r1, (s1, (refl, (refl, (refl, (refl, (refl, (small_width r.width hr.greatest, (small_width s.width hs.greatest, (refl, (refl, (refl, (hr.initial, (hs.initial, (refl, (refl, (refl, tt)))))))))))))))))) e in
    ((t.0.1.0, t.0.1.1.0), t.1)

abbrev update_pieces : ℕ → Register → List Piece
update_pieces i r =
    fixed (codes "    r") ∷ (fixed (decimal i) ∷ (fixed (codes " <= w") ∷ (numeral r.next ∷ (fixed (codes ";\n") ∷ []))))

pub update_begins : Begins update_line 4 114 Anything
update_begins = record { byte = λ i r x. refl; next = λ i r x. tt }

pub update_tells : Tells update_line IsSmallRegister StepsAlike Anything
update_tells i r s x y hr hs nx ny e =
    let t = same_line (update_pieces i r) (update_pieces i s) [] [] x y (refl, (refl, (refl, (hr.next, (hs.next, (refl, (refl, (refl, tt)))))))) e in
    (t.0.0, t.1)

abbrev register_of : (width initial next : ℕ) → Register
register_of w i n = record { width = w; initial = i; next = n }

pub one_register : (r s : Register) → StartsAlike r s → StepsAlike r s → r ≡ s
one_register r s h k =
    ap (λ w. register_of w r.initial r.next) h.0 ∙ (ap (λ i. register_of s.width i r.next) h.1 ∙ ap (λ n. register_of s.width s.initial n) k)

abbrev cell_pieces : ℕ → Cell → List Piece
cell_pieces i c =
    fixed (codes "  wire [") ∷ (numeral (c.width - 1) ∷ (fixed (codes ":0] w") ∷ (fixed (decimal i) ∷ (fixed (codes " = ") ∷ []))))

pub cell_begins : (cells : List Cell) → Begins (cell_line cells) 2 119 Anything
cell_begins cells = record { byte = λ i r x. refl; next = λ i r x. tt }

abbrev cell_of : ℕ → CellForm → Cell
cell_of w f = record { width = w; form = f }

one_cell : (c d : Cell) → c.width ≡ d.width → c.form ≡ d.form → c ≡ d
one_cell c d p q = ap (λ w. cell_of w c.form) p ∙ ap (λ f. cell_of d.width f) q

-- the line of a cell tells the cell, also where the cells of the two nets differ
pub cell_tells : (cs ds : List Cell) (i : ℕ) (c d : Cell) (x y : List ℕ) → IsSmallCell cs c → IsSmallCell ds d → cell_line cs i c ++ x ≡ cell_line ds i d ++ y → (c ≡ d) × (x ≡ y)
cell_tells cs ds i c d x y hc hd e =
    let c1 : c.width - 1 < 2 ^ 64 = omega arith in
    let d1 : d.width - 1 < 2 ^ 64 = omega arith in
    let end = codes ";\n" in
    let t = same_line (cell_pieces i c) (cell_pieces i d) (form_text cs c.width c.form ++ end) (form_text ds d.width d.form ++ end) x y
    (refl, (c1, (d1, (refl, (refl, (refl, (refl, (refl, tt)))))))) e in
    let u = same_form cs ds c.width d.width c.form d.form (end ++ x) (end ++ y) (small_width c.width hc.greatest) (small_width d.width hd.greatest) hc.form hd.form refl refl
    (sym (append_assoc (form_text cs c.width c.form) end x) ∙ (t.1 ∙ append_assoc (form_text ds d.width d.form) end y)) in
    (one_cell c d (one_less c.width d.width hc.least hd.least t.0.0) u.0, append_cancel_left end x y u.1)

-- so do the lines of all cells
abbrev lines : List Cell → ℕ → List Cell → List ℕ
lines cells i own = each_numbered (cell_line cells) i own

pub cells_tell : (cs ds : List Cell) (i : ℕ) (own other : List Cell) (x y : List ℕ) → AllByRecursion (IsSmallCell cs) own → AllByRecursion (IsSmallCell ds) other
    → (slice_index x 2 ≡ 119 → ⊥) → (slice_index y 2 ≡ 119 → ⊥) → lines cs i own ++ x ≡ lines ds i other ++ y → (own ≡ other) × (x ≡ y)
cells_tell cs ds i [] [] x y gc gd ex ey e = (refl, e)
cells_tell cs ds i [] (d ∷ other) x y gc gd ex ey e = absurd (ex (ap (λ t. slice_index t 2) e))
cells_tell cs ds i (c ∷ own) [] x y gc gd ex ey e = absurd (ey (ap (λ t. slice_index t 2) (sym e)))
cells_tell cs ds i (c ∷ own) (d ∷ other) x y gc gd ex ey e =
    let first = cell_tells cs ds i c d (lines cs (i + 1) own ++ x) (lines ds (i + 1) other ++ y) gc.0 gd.0
    (sym (append_assoc (cell_line cs i c) (lines cs (i + 1) own) x) ∙ (e ∙ append_assoc (cell_line ds i d) (lines ds (i + 1) other) y)) in
    let more = cells_tell cs ds (i + 1) own other x y gc.1 gd.1 ex ey first.1 in
    let head : c ≡ d = first.0 in
    let tail : own ≡ other = more.0 in
    (cc, more.1)
