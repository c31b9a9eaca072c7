-- Of the cells and registers that are kept each is needed.
-- Sets that have all that the new net needs, taken back to the old numbers of what is marked, have all that the whole net
-- needs; so they have what is marked, which is what is kept.
use Rattle.std.proofs.Common.{◌≡◌, ℕ, ◌<◌, ◌&&◌, Bool, true, false, if◌then◌else◌, Some, List, [], ◌∷◌, length, map, get_or, refl, sym, ap, subst, ◌∙◌, arith}
use Rattle.std.specs.Prelude.{slice_get}
use Rattle.std.specs.List.{AllByRecursion}
use Rattle.std.proofs.lemmas.Option.{slice_get-get_or}
use Rattle.dh_net.specs.declared.nets.Cell.{Cell}
use Rattle.dh_net.specs.declared.nets.CellForm.{CellForm}
use Rattle.dh_net.specs.declared.nets.CellForm.TheVariants.{Const, Reg, Data, Add, Sub, Mul, And, Or, Xor, Shl, ShrU, ShrS, LtU, LtS, Eq, Mux, Zero, Sign, Low}
use Rattle.dh_net.specs.declared.nets.Driver.{Driver}
use Rattle.dh_net.specs.declared.nets.Net.{Net}
use Rattle.dh_net.specs.declared.nets.Register.{Register}
use Rattle.dh_swept.specs.KeptCells.{new_number_in}
use Rattle.dh_swept.specs.NeededCells.{IsMarkedNumber, driver_wires, drivers_wires, all_drivers_wires, HasNeeded, NeedsAll}
use Rattle.dh_swept.specs.RenamedWires.{operands_of, registers_of, renamed_form, renamed_cell, renamed_register, renamed_driver}
use Rattle.dh_swept.specs.SweptParts.{AreSweptParts}
use Rattle.dh_swept.specs.declared.sweeping.Swept.{Swept}
use Rattle.dh_swept.proofs.WiresFound.{all_front, all_back, all_both}
use Rattle.dh_swept.proofs.NetSwept.{wire_kept, register_kept, new_cell, new_register}

both_true : (a b : Bool) → a ≡ true → b ≡ true → (a && b) ≡ true
both_true true b h g = g
both_true false b h g = h

first_true : (a b : Bool) → (a && b) ≡ true → a ≡ true
first_true true b h = refl
first_true false b h = h

second_true : (a b : Bool) → (a && b) ≡ true → b ≡ true
second_true true b h = h
second_true false b h = absurd (let no : false ≡ true = h in cc)

-- what a renamed form takes and shows
operands_renamed : (to to_register : ℕ → ℕ) (f : CellForm) → operands_of (renamed_form to to_register f) ≡ map to (operands_of f)
operands_renamed to to_register (Const bits) = refl
operands_renamed to to_register (Reg register) = refl
operands_renamed to to_register (Data memory bank port) = refl
operands_renamed to to_register (Add a b) = refl
operands_renamed to to_register (Sub a b) = refl
operands_renamed to to_register (Mul a b) = refl
operands_renamed to to_register (And a b) = refl
operands_renamed to to_register (Or a b) = refl
operands_renamed to to_register (Xor a b) = refl
operands_renamed to to_register (Shl a b) = refl
operands_renamed to to_register (ShrU a b) = refl
operands_renamed to to_register (ShrS a b) = refl
operands_renamed to to_register (LtU a b) = refl
operands_renamed to to_register (LtS a b) = refl
operands_renamed to to_register (Eq a b) = refl
operands_renamed to to_register (Mux c a b) = refl
operands_renamed to to_register (Zero a) = refl
operands_renamed to to_register (Sign a) = refl
operands_renamed to to_register (Low a) = refl

registers_renamed : (to to_register : ℕ → ℕ) (f : CellForm) → registers_of (renamed_form to to_register f) ≡ map to_register (registers_of f)
registers_renamed to to_register (Const bits) = refl
registers_renamed to to_register (Reg register) = refl
registers_renamed to to_register (Data memory bank port) = refl
registers_renamed to to_register (Add a b) = refl
registers_renamed to to_register (Sub a b) = refl
registers_renamed to to_register (Mul a b) = refl
registers_renamed to to_register (And a b) = refl
registers_renamed to to_register (Or a b) = refl
registers_renamed to to_register (Xor a b) = refl
registers_renamed to to_register (Shl a b) = refl
registers_renamed to to_register (ShrU a b) = refl
registers_renamed to to_register (ShrS a b) = refl
registers_renamed to to_register (LtU a b) = refl
registers_renamed to to_register (LtS a b) = refl
registers_renamed to to_register (Eq a b) = refl
registers_renamed to to_register (Mux c a b) = refl
registers_renamed to to_register (Zero a) = refl
registers_renamed to to_register (Sign a) = refl
registers_renamed to to_register (Low a) = refl

-- A set of new wires, by the old numbers of the marked ones.

module _ (flags : List Bool) (to : ℕ → ℕ) (needed : ℕ → Bool) where
  abbrev Has : ℕ → Type 0
  Has w = needed w ≡ true

  abbrev pub taken_back : ℕ → Bool
  taken_back w = get_or flags w false && needed (to w)

  abbrev HasBack : ℕ → Type 0
  HasBack w = (get_or flags w false && needed (to w)) ≡ true

  back : (w : ℕ) → IsMarkedNumber flags w → needed (to w) ≡ true → (get_or flags w false && needed (to w)) ≡ true
  back w m h = both_true (get_or flags w false) (needed (to w)) m h

  wires_back : (ws : List ℕ) → AllByRecursion (IsMarkedNumber flags) ws → AllByRecursion Has (map to ws) → AllByRecursion HasBack ws
  wires_back [] m h = tt
  wires_back (w ∷ ws) m h = (back w m.0 h.0, wires_back ws m.1 h.1)

  data_back : (d : Driver) (t : Bool) → AllByRecursion (IsMarkedNumber flags) (if t then d.data_ ∷ [] else []) → AllByRecursion Has (if t then (if t then to d.data_ else 0) ∷ [] else [])
      → AllByRecursion HasBack (if t then d.data_ ∷ [] else [])
  data_back d true m h = (back d.data_ m.0 h.0, tt)
  data_back d false m h = tt

  driver_back : (d : Driver) → AllByRecursion (IsMarkedNumber flags) (driver_wires d) → AllByRecursion Has (driver_wires (renamed_driver to d)) → AllByRecursion HasBack (driver_wires d)
  driver_back d m h = (back d.enable m.0 h.0, (back d.row m.1.0 h.1.0, data_back d d.write m.1.1 h.1.1))

  drivers_back : (ds : List Driver) → AllByRecursion (IsMarkedNumber flags) (drivers_wires ds) → AllByRecursion Has (drivers_wires (map (renamed_driver to) ds)) → AllByRecursion HasBack (drivers_wires ds)
  drivers_back [] m h = tt
  drivers_back (d ∷ ds) m h =
      all_both HasBack (driver_wires d) (drivers_wires ds)
      (driver_back d (all_front (IsMarkedNumber flags) (driver_wires d) (drivers_wires ds) m) (all_front Has (driver_wires (renamed_driver to d)) (drivers_wires (map (renamed_driver to) ds)) h))
      (drivers_back ds (all_back (IsMarkedNumber flags) (driver_wires d) (drivers_wires ds) m) (all_back Has (driver_wires (renamed_driver to d)) (drivers_wires (map (renamed_driver to) ds)) h))

  ports_back : (dss : List (List Driver)) → AllByRecursion (IsMarkedNumber flags) (all_drivers_wires dss)
      → AllByRecursion Has (all_drivers_wires (map (λ (ds : List Driver). map (renamed_driver to) ds) dss)) → AllByRecursion HasBack (all_drivers_wires dss)
  ports_back [] m h = tt
  ports_back (ds ∷ dss) m h =
      let others = map (λ (es : List Driver). map (renamed_driver to) es) dss in
      all_both HasBack (drivers_wires ds) (all_drivers_wires dss)
      (drivers_back ds (all_front (IsMarkedNumber flags) (drivers_wires ds) (all_drivers_wires dss) m) (all_front Has (drivers_wires (map (renamed_driver to) ds)) (all_drivers_wires others) h))
      (ports_back dss (all_back (IsMarkedNumber flags) (drivers_wires ds) (all_drivers_wires dss) m) (all_back Has (drivers_wires (map (renamed_driver to) ds)) (all_drivers_wires others) h))

module _ (net : Net) (s : Swept) (h : AreSweptParts net s) (new : Net) (registers : new.registers ≡ s.registers) (cells : new.cells ≡ s.cells) (drivers : new.drivers ≡ s.drivers) (tick : new.tick ≡ s.tick) (done : new.done ≡ s.done)
    (fault : new.fault ≡ s.fault) where
  module _ (needed held : ℕ → Bool) (holds : HasNeeded new needed held) where
    abbrev old_needed : ℕ → Bool
    old_needed = taken_back h.marks.wires (new_number_in h.to) needed

    abbrev old_held : ℕ → Bool
    old_held = taken_back h.marks.registers (new_number_in h.to_register) held

    out_back : (n a : ℕ) → n ≡ new_number_in h.to a → IsMarkedNumber h.marks.wires a → needed n ≡ true → taken_back h.marks.wires (new_number_in h.to) needed a ≡ true
    out_back n a is m on = back h.marks.wires (new_number_in h.to) needed a m (ap needed (sym is) ∙ on)

    -- the new cell of one that is taken back
    cell_there : (i : ℕ) (c : Cell) → IsMarkedNumber h.marks.wires i → slice_get net.cells i ≡ Some c → slice_get new.cells (new_number_in h.to i) ≡ Some (renamed_cell (new_number_in h.to) (new_number_in h.to_register) c)
    cell_there i c m at =
        ap (λ (l : List Cell). slice_get l (new_number_in h.to i)) cells ∙ new_cell net s h (new_number_in h.to i) i c (wire_kept net s h i m) at

    register_there : (k : ℕ) (r : Register) → IsMarkedNumber h.marks.registers k → slice_get net.registers k ≡ Some r → slice_get new.registers (new_number_in h.to_register k) ≡ Some (renamed_register (new_number_in h.to) r)
    register_there k r m at =
        ap (λ (l : List Register). slice_get l (new_number_in h.to_register k)) registers ∙ new_register net s h (new_number_in h.to_register k) k r (register_kept net s h k m) at

    holds_back : HasNeeded net old_needed old_held
    holds_back =
        let marks = h.needed.roots in
        let has = holds.roots in
        record {
          roots = (
            out_back new.tick net.tick (tick ∙ h.tick) marks.0 has.0,
            (
              out_back new.done net.done (done ∙ h.done) marks.1.0 has.1.0,
              (
                out_back new.fault net.fault (fault ∙ h.fault) marks.1.1.0 has.1.1.0,
                ports_back h.marks.wires (new_number_in h.to) needed net.drivers marks.1.1.1
                    (subst (λ (dss : List (List Driver)). AllByRecursion (λ (a : ℕ). needed a ≡ true) (all_drivers_wires dss)) (drivers ∙ h.drivers) has.1.1.1),
              ),
            ),
          );
          operands = λ i c at on.
              let m : IsMarkedNumber h.marks.wires i = first_true (get_or h.marks.wires i false) (needed (new_number_in h.to i)) on in
              let has_new : needed (new_number_in h.to i) ≡ true = second_true (get_or h.marks.wires i false) (needed (new_number_in h.to i)) on in
              wires_back h.marks.wires (new_number_in h.to) needed (operands_of c.form) (h.needed.operands i c at m)
              (subst (λ (ws : List ℕ). AllByRecursion (λ (a : ℕ). needed a ≡ true) ws) (operands_renamed (new_number_in h.to) (new_number_in h.to_register) c.form)
              (holds.operands (new_number_in h.to i) (renamed_cell (new_number_in h.to) (new_number_in h.to_register) c) (cell_there i c m at) has_new));
          shown = λ i c at on.
              let m : IsMarkedNumber h.marks.wires i = first_true (get_or h.marks.wires i false) (needed (new_number_in h.to i)) on in
              let has_new : needed (new_number_in h.to i) ≡ true = second_true (get_or h.marks.wires i false) (needed (new_number_in h.to i)) on in
              wires_back h.marks.registers (new_number_in h.to_register) held (registers_of c.form) (h.needed.shown i c at m)
              (subst (λ (ks : List ℕ). AllByRecursion (λ (k : ℕ). held k ≡ true) ks) (registers_renamed (new_number_in h.to) (new_number_in h.to_register) c.form)
              (holds.shown (new_number_in h.to i) (renamed_cell (new_number_in h.to) (new_number_in h.to_register) c) (cell_there i c m at) has_new));
          nexts = λ k r at on.
              let m : IsMarkedNumber h.marks.registers k = first_true (get_or h.marks.registers k false) (held (new_number_in h.to_register k)) on in
              let has_new : held (new_number_in h.to_register k) ≡ true = second_true (get_or h.marks.registers k false) (held (new_number_in h.to_register k)) on in
              back h.marks.wires (new_number_in h.to) needed r.next (h.needed.nexts k r at m)
              (holds.nexts (new_number_in h.to_register k) (renamed_register (new_number_in h.to) r) (register_there k r m at) has_new);
        }

  each_kept : (needed held : ℕ → Bool) → HasNeeded new needed held → (wire : ℕ) → wire < length new.cells → needed wire ≡ true
  each_kept needed held holds j less =
      let long = h.cells.long in
      let same = ap (λ (l : List Cell). length l) cells in
      let i = get_or h.at j 0 in
      let here : slice_get h.at j ≡ Some (get_or h.at j 0) = slice_get-get_or h.at j 0 (omega (arith, less, long, same)) in
      let on = h.needed.only (taken_back h.marks.wires (new_number_in h.to) needed) (taken_back h.marks.registers (new_number_in h.to_register) held) (holds_back needed held holds) i (h.wires.marked_ones j i here) in
      ap needed (sym (h.wires.back j i here)) ∙ second_true (get_or h.marks.wires i false) (needed (new_number_in h.to i)) on

  each_register_kept : (needed held : ℕ → Bool) → HasNeeded new needed held → (register : ℕ) → register < length new.registers → held register ≡ true
  each_register_kept needed held holds j less =
      let long = h.registers.long in
      let same = ap (λ (l : List Register). length l) registers in
      let i = get_or h.at_register j 0 in
      let here : slice_get h.at_register j ≡ Some (get_or h.at_register j 0) = slice_get-get_or h.at_register j 0 (omega (arith, less, long, same)) in
      let on = h.needed.only_held (taken_back h.marks.wires (new_number_in h.to) needed) (taken_back h.marks.registers (new_number_in h.to_register) held) (holds_back needed held holds) i (h.held.marked_ones j i here) in
      ap held (sym (h.held.back j i here)) ∙ second_true (get_or h.marks.registers i false) (held (new_number_in h.to_register i)) on

  pub needs_all : NeedsAll new
  needs_all = record { each_cell = each_kept; each_register = each_register_kept }
