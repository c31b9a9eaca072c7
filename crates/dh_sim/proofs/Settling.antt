-- The settling walk. Setting wire i to the value of cell i makes its equation hold, since no form
-- reads its own wire, and keeps those before it, since they read only wires before wire i.
use Rattle.std.proofs.Common.{◌≡◌, ℕ, ◌+◌, ◌^◌, ◌<◌, ◌≤◌, ◌⊎◌, inl, inr, Some, List, [], length, get_or, sym, ap, subst, ◌∙◌, arith}
use Rattle.std.specs.Prelude.{slice_get, slice_set}
use Rattle.std.proofs.lemmas.List.{get_or-set_same, get_or-set_other}
use Rattle.std.proofs.lemmas.Option.{slice_get_within, slice_get-get_or}
use Rattle.dh_tree.specs.declared.tables.MemEntry.{MemEntry}
use Rattle.dh_net.specs.declared.nets.Cell.{Cell}
use Rattle.dh_net.specs.declared.nets.Net.{Net}
use Rattle.dh_net.specs.Valid.{IsValid}
use Rattle.dh_net.specs.Clock.{form_value, IsValuation}
use Rattle.dh_net.proofs.Valuations.{AgreeBelow, FitBelow, reads_before, form_fits}
use Rattle.dh_sim.specs.Layouts.{ArraysFit}

-- the equations of the cells before this one hold, and their wires fit
pub record HoldsBefore (net : Net) (registers held wires : List ℕ) (n : ℕ) : Type 0 where
  pub holds : (k : ℕ) (c : Cell) → k < n → slice_get net.cells k ≡ Some c → get_or wires k 0 ≡ form_value net.table net.cells registers held wires c.width c.form
  pub fits : FitBelow net.cells n wires

-- below n + 1 is below n, or at n
pub below_one : (k n : ℕ) → k < n + 1 → (k < n) ⊎ (k ≡ n)
below_one k n h = grind arith

set_agrees : (ws : List ℕ) (n v i : ℕ) → i ≤ n → AgreeBelow i ws (slice_set ws n v)
set_agrees ws n v i h k below = sym (get_or-set_other ws n k v 0 (λ same. omega arith))

module _ (net : Net) (valid : IsValid net) (rs hs ws : List ℕ) (n v : ℕ) (c : Cell) (at : slice_get net.cells n ≡ Some c) (inside : n < length ws)
    (arrays : ArraysFit net rs hs) (before : HoldsBefore net rs hs ws n) (is : v ≡ form_value net.table net.cells rs hs ws c.width c.form) where
  same_cell : (k : ℕ) (d : Cell) → k ≡ n → slice_get net.cells k ≡ Some d → c ≡ d
  same_cell k d here there =
      let same : Some c ≡ Some d = sym at ∙ (ap (λ x. slice_get net.cells x) (sym here) ∙ there) in
      cc

  holds_on : (k : ℕ) (d : Cell) → k < n + 1 → slice_get net.cells k ≡ Some d
      → get_or (slice_set ws n v) k 0 ≡ form_value net.table net.cells rs hs (slice_set ws n v) d.width d.form
  holds_on k d small there =
      elim (below_one k n small) [
        | inl less ↦
            get_or-set_other ws n k v 0 (λ same. omega arith)
            ∙ (before.holds k d less there
            ∙ reads_before net.table net.registers net.cells k d.width d.form rs hs ws (slice_set ws n v) (valid.cells k d there).form (set_agrees ws n v k (omega arith)))
        | inr here ↦
            subst (λ (x : ℕ). get_or (slice_set ws n v) x 0 ≡ form_value net.table net.cells rs hs (slice_set ws n v) d.width d.form) (sym here)
            (subst (λ (x : Cell). get_or (slice_set ws n v) n 0 ≡ form_value net.table net.cells rs hs (slice_set ws n v) x.width x.form) (same_cell k d here there)
            (get_or-set_same ws n v 0 inside
            ∙ (is
            ∙ reads_before net.table net.registers net.cells n c.width c.form rs hs ws (slice_set ws n v) (valid.cells n c at).form (set_agrees ws n v n (omega arith)))))
      ]

  value_fits : v < 2 ^ c.width
  value_fits =
      subst (λ (x : ℕ). x < 2 ^ c.width) (sym is)
      (form_fits net (record { registers = rs; held = hs; memories = [] }) ws arrays n c.width c.form (valid.cells n c at).form before.fits)

  fits_on : FitBelow net.cells (n + 1) (slice_set ws n v)
  fits_on k d small there =
      elim (below_one k n small) [
        | inl less ↦ subst (λ (x : ℕ). x < 2 ^ d.width) (sym (get_or-set_other ws n k v 0 (λ same. omega arith))) (before.fits k d less there)
        | inr here ↦
            subst (λ (x : ℕ). get_or (slice_set ws n v) x 0 < 2 ^ d.width) (sym here)
            (subst (λ (x : Cell). get_or (slice_set ws n v) n 0 < 2 ^ x.width) (same_cell k d here there)
            (subst (λ (x : ℕ). x < 2 ^ c.width) (sym (get_or-set_same ws n v 0 inside)) value_fits))
      ]

  -- one step of the walk
  pub walk_on : HoldsBefore net rs hs (slice_set ws n v) (n + 1)
  walk_on = record { holds = holds_on; fits = fits_on }

-- before the first step
pub none_hold : (net : Net) (rs hs ws : List ℕ) → HoldsBefore net rs hs ws 0
none_hold net rs hs ws = record { holds = λ k c small there. absurd (omega arith); fits = λ k c small there. absurd (omega arith) }

-- at the end every equation holds
pub all_hold : (net : Net) (rs hs ws : List ℕ) (n : ℕ) → length ws ≡ length net.cells → length net.cells ≤ n → HoldsBefore net rs hs ws n
    → IsValuation net.table net.cells rs hs ws
all_hold net rs hs ws n long past before =
    record { long = long; each = λ i c there. before.holds i c (let within = slice_get_within net.cells i c there in omega arith) there }

-- the cell in the list that is walked is the net's
pub cell_there : (cells items : List Cell) (n : ℕ) (d : Cell) → items ≡ cells → n < length items → slice_get cells n ≡ Some (get_or items n d)
cell_there cells items n d same h = subst (λ (xs : List Cell). slice_get xs n ≡ Some (get_or items n d)) same (slice_get-get_or items n d h)
