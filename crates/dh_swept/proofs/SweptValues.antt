-- The wires of the cells that are kept show what they show in the whole net.
use Rattle.std.proofs.Common.{◌≡◌, ℕ, ◌<◌, inl, inr, Some, List, [], ◌∷◌, length, map, get_or, refl, sym, ap, ◌∙◌, arith}
use Rattle.std.specs.Prelude.{Option, slice_get, slice_index}
use Rattle.std.specs.List.{AllByRecursion}
use Rattle.std.proofs.lemmas.List.{get_or-map, length-map}
use Rattle.std.proofs.lemmas.Option.{slice_get_cases, slice_get_within, slice_get-get_or, get_or_from_slice_get}
use Rattle.dh_tree.specs.declared.tables.MemEntry.{MemEntry}
use Rattle.dh_net.specs.declared.nets.Cell.{Cell}
use Rattle.dh_net.specs.declared.nets.CellForm.{CellForm}
use Rattle.dh_net.specs.declared.nets.CellForm.TheVariants.{Const, Reg, Data, Add, Sub, Mul, And, Or, Xor, Shl, ShrU, ShrS, LtU, LtS, Eq, Mux, Zero, Sign, Low}
use Rattle.dh_net.specs.declared.nets.Net.{Net}
use Rattle.dh_net.specs.declared.nets.Register.{Register}
use Rattle.dh_net.specs.Clock.{State, form_value, width_in, wire_width, Settles}
use Rattle.dh_swept.specs.RenamedWires.{operands_of, registers_of, renamed_form, renamed_cell, renamed_register}
use Rattle.dh_swept.specs.SweptNets.{IsKeptNumber, IsSwept}

module _ (table : List MemEntry) (cells news : List Cell) (to to_register : ℕ → ℕ) (ws vs rs qs hs : List ℕ) where
  -- a wire shows the same by its new number, and has the same width
  pub record ShowsAs (a : ℕ) : Type 0 where
    pub same : slice_index vs (to a) ≡ slice_index ws a
    pub wide : wire_width news (to a) ≡ wire_width cells a

  -- a register holds the same by its new number
  abbrev pub HoldsAs : ℕ → Type 0
  HoldsAs k = slice_index qs (to_register k) ≡ slice_index rs k

  pub value_as : (width : ℕ) (f : CellForm) → AllByRecursion ShowsAs (operands_of f) → AllByRecursion HoldsAs (registers_of f)
      → form_value table news qs hs vs width (renamed_form to to_register f) ≡ form_value table cells rs hs ws width f
  value_as width (Const bits) h g = refl
  value_as width (Reg register) h g = g.0
  value_as width (Data memory bank port) h g = refl
  value_as width (Add a b) h g = let x = h.0.same in let y = h.1.0.same in cc
  value_as width (Sub a b) h g = let x = h.0.same in let y = h.1.0.same in cc
  value_as width (Mul a b) h g = let x = h.0.same in let y = h.1.0.same in cc
  value_as width (And a b) h g = let x = h.0.same in let y = h.1.0.same in cc
  value_as width (Or a b) h g = let x = h.0.same in let y = h.1.0.same in cc
  value_as width (Xor a b) h g = let x = h.0.same in let y = h.1.0.same in cc
  value_as width (Shl a b) h g = let x = h.0.same in let y = h.1.0.same in cc
  value_as width (ShrU a b) h g = let x = h.0.same in let y = h.1.0.same in cc
  value_as width (ShrS a b) h g = let x = h.0.same in let y = h.1.0.same in cc
  value_as width (LtU a b) h g = let x = h.0.same in let y = h.1.0.same in cc
  value_as width (LtS a b) h g = let x = h.0.same in let y = h.1.0.same in let z = h.0.wide in cc
  value_as width (Eq a b) h g = let x = h.0.same in let y = h.1.0.same in cc
  value_as width (Mux c a b) h g = let z = h.0.same in let x = h.1.0.same in let y = h.1.1.0.same in cc
  value_as width (Zero a) h g = let x = h.0.same in cc
  value_as width (Sign a) h g = let x = h.0.same in let z = h.0.wide in cc
  value_as width (Low a) h g = let x = h.0.same in cc

all_so : {A : Type 0} (P Q : A → Type 0) (xs : List A) → ((x : A) → P x → Q x) → AllByRecursion P xs → AllByRecursion Q xs
all_so P Q [] so h = tt
all_so P Q (x ∷ xs) so h = (so x h.0, all_so P Q xs so h.1)

-- what the list that is kept shows where the whole list shows it
shown_at : (at : List ℕ) (to : ℕ → ℕ) (ws : List ℕ) (a : ℕ) → IsKeptNumber at to a → slice_index (map (λ (i : ℕ). slice_index ws i) at) (to a) ≡ slice_index ws a
shown_at at to ws a kept =
    get_or-map (λ (i : ℕ). slice_index ws i) at (to a) 0 0 (slice_get_within at (to a) a kept)
    ∙ ap (λ (i : ℕ). slice_index ws i) (get_or_from_slice_get at (to a) a 0 kept)

-- Items that are kept, by their old numbers.

module _ {A : Type 0} (at : List ℕ) (olds news : List A) (rename : A → A) (there : (j i : ℕ) → slice_get at j ≡ Some i → i < length olds)
    (moved : (j i : ℕ) (x : A) → slice_get at j ≡ Some i → slice_get olds i ≡ Some x → slice_get news j ≡ Some (rename x)) where
  -- the old item and the new one of a number that is kept
  new_item : (j i : ℕ) → slice_get at j ≡ Some i → (x : A) × ((slice_get olds i ≡ Some x) × (slice_get news j ≡ Some (rename x)))
  new_item j i here =
      elim (slice_get_cases olds i).1 [
        | inl found ↦ (found.0, (found.2, moved j i found.0 here found.2))
        | inr past ↦ absurd (let beyond = past.0 in let inside = there j i here in omega (arith, beyond, inside))
      ]

  -- the old item of a new one
  old_item : length at ≡ length news → (j : ℕ) (n : A) → slice_get news j ≡ Some n → (i : ℕ) × ((x : A) × ((slice_get at j ≡ Some i) × ((slice_get olds i ≡ Some x) × (n ≡ rename x))))
  old_item long j n is =
      let inside = slice_get_within news j n is in
      let less : j < length at = omega (arith, inside, long) in
      let here : slice_get at j ≡ Some (get_or at j 0) = slice_get-get_or at j 0 less in
      let found = new_item j (get_or at j 0) here in
      let same : ◌≡◌ {A = A} n (rename found.0) = (let both : ◌≡◌ {A = Option A} (Some n) (Some (rename found.0)) = sym is ∙ found.1.1 in cc) in
      (get_or at j 0, (found.0, (here, (found.1.0, same))))

module _ (old new : Net) (h : IsSwept old new) where
  -- the wires of the new net, by those of the old
  abbrev pub kept_wires : List ℕ → List ℕ
  kept_wires ws = map (λ i. slice_index ws i) h.at

  -- the state of the new net, by that of the old
  abbrev pub kept_state : State → State
  kept_state s = record { registers = map (λ i. slice_index s.registers i) h.at_register; held = s.held; memories = s.memories }

  pub kept_shows : (ws : List ℕ) (a : ℕ) → IsKeptNumber h.at h.to a → slice_index (kept_wires ws) (h.to a) ≡ slice_index ws a
  kept_shows ws a kept = shown_at h.at h.to ws a kept

  -- the cell of a wire that is kept
  pub cell_at : (a : ℕ) → IsKeptNumber h.at h.to a → (c : Cell) × ((slice_get old.cells a ≡ Some c) × (slice_get new.cells (h.to a) ≡ Some (renamed_cell h.to h.to_register c)))
  cell_at a kept = new_item h.at old.cells new.cells (renamed_cell h.to h.to_register) h.there h.cells (h.to a) a kept

  -- a register that is kept
  pub register_at : (k : ℕ) → IsKeptNumber h.at_register h.to_register k → (r : Register) × ((slice_get old.registers k ≡ Some r) × (slice_get new.registers (h.to_register k) ≡ Some (renamed_register h.to r)))
  register_at k kept = new_item h.at_register old.registers new.registers (renamed_register h.to) h.registers_there h.registers (h.to_register k) k kept

  pub kept_wide : (a : ℕ) → IsKeptNumber h.at h.to a → wire_width new.cells (h.to a) ≡ wire_width old.cells a
  kept_wide a kept = let c = cell_at a kept in ap width_in c.1.1 ∙ sym (ap width_in c.1.0)

  -- the old cell of a new one
  pub old_cell : (j : ℕ) (n : Cell) → slice_get new.cells j ≡ Some n → (i : ℕ) × ((c : Cell) × ((slice_get h.at j ≡ Some i) × ((slice_get old.cells i ≡ Some c) × (n ≡ renamed_cell h.to h.to_register c))))
  old_cell j n at = old_item h.at old.cells new.cells (renamed_cell h.to h.to_register) h.there h.cells h.long j n at

  -- the old register of a new one
  pub old_register : (j : ℕ) (n : Register) → slice_get new.registers j ≡ Some n
      → (i : ℕ) × ((r : Register) × ((slice_get h.at_register j ≡ Some i) × ((slice_get old.registers i ≡ Some r) × (n ≡ renamed_register h.to r))))
  old_register j n at = old_item h.at_register old.registers new.registers (renamed_register h.to) h.registers_there h.registers h.registers_long j n at

  pub kept_settles : (s : State) (ws : List ℕ) → Settles old s ws → Settles new (kept_state s) (kept_wires ws)
  kept_settles s ws v = record {
    long = length-map h.at (λ (i : ℕ). slice_index ws i) ∙ h.long;
    each = λ j n at.
        let o = old_cell j n at in
        let i = o.0 in
        let c = o.1.0 in
        let qs = map (λ (k : ℕ). slice_index s.registers k) h.at_register in
        get_or-map (λ (k : ℕ). slice_index ws k) h.at j 0 0 (slice_get_within h.at j i o.1.1.0)
        ∙ (ap (λ (k : ℕ). slice_index ws k) (get_or_from_slice_get h.at j i 0 o.1.1.0)
        ∙ (v.each i c o.1.1.1.0
        ∙ (sym (value_as old.table old.cells new.cells h.to h.to_register ws (kept_wires ws) s.registers qs s.held c.width c.form
        (all_so (IsKeptNumber h.at h.to) (ShowsAs old.table old.cells new.cells h.to h.to_register ws (kept_wires ws) s.registers qs s.held) (operands_of c.form) (λ a kept. record { same = kept_shows ws a kept; wide = kept_wide a kept })
        (h.takes j i c o.1.1.0 o.1.1.1.0))
        (all_so (IsKeptNumber h.at_register h.to_register) (HoldsAs old.table old.cells new.cells h.to h.to_register ws (kept_wires ws) s.registers qs s.held) (registers_of c.form) (λ k kept. shown_at h.at_register h.to_register s.registers k kept)
        (h.shows j i c o.1.1.0 o.1.1.1.0)))
        ∙ (ap (λ (t : List MemEntry). form_value t new.cells qs s.held (kept_wires ws) c.width (renamed_form h.to h.to_register c.form)) (sym h.table)
        ∙ ap (λ (m : Cell). form_value new.table new.cells qs s.held (kept_wires ws) m.width m.form) (sym o.1.1.1.1)))));
  }
