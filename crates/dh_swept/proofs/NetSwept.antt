-- A net and what is new of it without the cells and registers that it does not need.
use Rattle.std.proofs.Common.{◌≡◌, ℕ, suc, ◌<◌, Bool, true, false, if◌then◌else◌, Some, None, inl, inr, List, [], ◌∷◌, length, refl, sym, ap, ◌∙◌, arith}
use Rattle.std.specs.Prelude.{Option, slice_get, option_map}
use Rattle.std.specs.List.{AllByRecursion}
use Rattle.std.proofs.lemmas.Option.{slice_get_cases, slice_get_within}
use Rattle.std.proofs.lemmas.Bool.{cases_lt}
use Rattle.std.proofs.lemmas.List.{get_or_past}
use Rattle.dh_net.specs.BankPorts.{ports_of}
use Rattle.dh_net.specs.Valid.{HasWidth, FormFits, IsDriver, IsValid}
use Rattle.dh_net.specs.declared.nets.Cell.{Cell}
use Rattle.dh_net.specs.declared.nets.CellForm.{CellForm}
use Rattle.dh_net.specs.declared.nets.CellForm.TheVariants.{Const, Reg, Data, Add, Sub, Mul, And, Or, Xor, Shl, ShrU, ShrS, LtU, LtS, Eq, Mux, Zero, Sign, Low}
use Rattle.dh_net.specs.declared.nets.Driver.{Driver}
use Rattle.dh_net.specs.declared.nets.Net.{Net}
use Rattle.dh_net.specs.declared.nets.Register.{Register}
use Rattle.dh_net.specs.declared.ports.Port.{Port}
use Rattle.dh_net.proofs.Valuations.{cell_of}
use Rattle.dh_swept.specs.KeptCells.{new_number_in}
use Rattle.dh_swept.specs.NeededCells.{IsMarkedNumber, driver_wires, drivers_wires, all_drivers_wires, CanMark}
use Rattle.dh_swept.specs.RenamedWires.{operands_of, registers_of, renamed_cell, renamed_register}
use Rattle.dh_swept.specs.SweptNets.{IsKeptNumber, KeepsDriver, IsSwept}
use Rattle.dh_swept.specs.SweptParts.{AreSweptParts}
use Rattle.dh_swept.specs.declared.sweeping.Swept.{Swept}
use Rattle.dh_swept.proofs.MarksSet.{all_so}
use Rattle.dh_swept.proofs.WiresFound.{all_front, all_back, all_both}

-- What a valid net needs is there.

takes_earlier : (table : _) (rs : _) (cells : List Cell) (i width : ℕ) (f : CellForm) → FormFits table rs cells i width f → AllByRecursion (λ (a : ℕ). a < i) (operands_of f)
takes_earlier table rs cells i width (Const bits) h = tt
takes_earlier table rs cells i width (Reg register) h = tt
takes_earlier table rs cells i width (Data memory bank port) h = tt
takes_earlier table rs cells i width (Add a b) h = (h.left.earlier, (h.right.earlier, tt))
takes_earlier table rs cells i width (Sub a b) h = (h.left.earlier, (h.right.earlier, tt))
takes_earlier table rs cells i width (Mul a b) h = (h.left.earlier, (h.right.earlier, tt))
takes_earlier table rs cells i width (And a b) h = (h.left.earlier, (h.right.earlier, tt))
takes_earlier table rs cells i width (Or a b) h = (h.left.earlier, (h.right.earlier, tt))
takes_earlier table rs cells i width (Xor a b) h = (h.left.earlier, (h.right.earlier, tt))
takes_earlier table rs cells i width (Shl a b) h = (h.0.earlier, (h.1.1.earlier, tt))
takes_earlier table rs cells i width (ShrU a b) h = (h.0.earlier, (h.1.1.earlier, tt))
takes_earlier table rs cells i width (ShrS a b) h = (h.0.earlier, (h.1.1.earlier, tt))
takes_earlier table rs cells i width (LtU a b) h = (h.1.1.left.earlier, (h.1.1.right.earlier, tt))
takes_earlier table rs cells i width (LtS a b) h = (h.1.1.left.earlier, (h.1.1.right.earlier, tt))
takes_earlier table rs cells i width (Eq a b) h = (h.1.1.left.earlier, (h.1.1.right.earlier, tt))
takes_earlier table rs cells i width (Mux c a b) h = (h.0.earlier, (h.1.left.earlier, (h.1.right.earlier, tt)))
takes_earlier table rs cells i width (Zero a) h = (h.1.0.earlier, tt)
takes_earlier table rs cells i width (Sign a) h = (h.1.0.earlier, tt)
takes_earlier table rs cells i width (Low a) h = (h.1.0.earlier, tt)

-- a register that a form shows is there
register_there : (rs : List Register) (k width : ℕ) → (o : Option Register) → slice_get rs k ≡ o → option_map (λ (r : Register). r.width) o ≡ Some width → k < length rs
register_there rs k width None is wide = absurd (cc)
register_there rs k width (Some r) is wide = slice_get_within rs k r is

shows_register : (table : _) (rs : List Register) (cells : List Cell) (i width : ℕ) (f : CellForm) → FormFits table rs cells i width f → AllByRecursion (λ (k : ℕ). k < length rs) (registers_of f)
shows_register table rs cells i width (Const bits) h = tt
shows_register table rs cells i width (Reg register) h = (register_there rs register width (slice_get rs register) refl h, tt)
shows_register table rs cells i width (Data memory bank port) h = tt
shows_register table rs cells i width (Add a b) h = tt
shows_register table rs cells i width (Sub a b) h = tt
shows_register table rs cells i width (Mul a b) h = tt
shows_register table rs cells i width (And a b) h = tt
shows_register table rs cells i width (Or a b) h = tt
shows_register table rs cells i width (Xor a b) h = tt
shows_register table rs cells i width (Shl a b) h = tt
shows_register table rs cells i width (ShrU a b) h = tt
shows_register table rs cells i width (ShrS a b) h = tt
shows_register table rs cells i width (LtU a b) h = tt
shows_register table rs cells i width (LtS a b) h = tt
shows_register table rs cells i width (Eq a b) h = tt
shows_register table rs cells i width (Mux c a b) h = tt
shows_register table rs cells i width (Zero a) h = tt
shows_register table rs cells i width (Sign a) h = tt
shows_register table rs cells i width (Low a) h = tt

module _ (net : Net) (valid : IsValid net) where
  wire_there : (a width : ℕ) → HasWidth net.cells a width → a < length net.cells
  wire_there a width wide = let c = cell_of net.cells a width wide in slice_get_within net.cells a c.0 c.1.0

  data_there : (p : Port) (d : Driver) → IsDriver net.cells p d → (t : Bool) → d.write ≡ t → AllByRecursion (λ (a : ℕ). a < length net.cells) (if t then d.data_ ∷ [] else [])
  data_there p d h true is = (wire_there d.data_ p.width (h.out is), tt)
  data_there p d h false is = tt

  drivers_there : (p : Port) (ds : List Driver) → ((k : ℕ) (d : Driver) → slice_get ds k ≡ Some d → IsDriver net.cells p d) → AllByRecursion (λ (a : ℕ). a < length net.cells) (drivers_wires ds)
  drivers_there p [] h = tt
  drivers_there p (d ∷ ds) h =
      let own = h 0 d refl in
      all_both (λ (a : ℕ). a < length net.cells) (driver_wires d) (drivers_wires ds)
      (wire_there d.enable 1 own.enable, (wire_there d.row p.row_width own.row, data_there p d own d.write refl)) (drivers_there p ds (λ k e at. h (suc k) e at))

  all_there : (dss : List (List Driver)) → ((q : ℕ) (ds : List Driver) → slice_get dss q ≡ Some ds → AllByRecursion (λ (a : ℕ). a < length net.cells) (drivers_wires ds)) → AllByRecursion (λ (a : ℕ). a < length net.cells) (all_drivers_wires dss)
  all_there [] h = tt
  all_there (ds ∷ dss) h = all_both (λ (a : ℕ). a < length net.cells) (drivers_wires ds) (all_drivers_wires dss) (h 0 ds refl) (all_there dss (λ q es at. h (suc q) es at))

  port_there : (q : ℕ) (ds : List Driver) → slice_get net.drivers q ≡ Some ds → AllByRecursion (λ (a : ℕ). a < length net.cells) (drivers_wires ds)
  port_there q ds at =
      elim (slice_get_cases (ports_of net.table) q).1 [
        | inl found ↦ drivers_there found.0 ds (λ k d here. valid.drivers q ds found.0 at found.2 k d here)
        | inr past ↦ absurd (let beyond = past.0 in let inside = slice_get_within net.drivers q ds at in let same = valid.ports in omega (arith, beyond, inside, same))
      ]

  earlier_there : (i : ℕ) (c : Cell) → slice_get net.cells i ≡ Some c → AllByRecursion (λ (a : ℕ). a < length net.cells) (operands_of c.form)
  earlier_there i c at =
      let inside = slice_get_within net.cells i c at in
      all_so (λ (a : ℕ). a < i) (λ (a : ℕ). a < length net.cells) (operands_of c.form) (λ a small. omega (arith, small, inside))
      (takes_earlier net.table net.registers net.cells i c.width c.form (valid.cells i c at).form)

  pub can_mark : CanMark net
  can_mark = record {
    roots = (wire_there net.tick 1 valid.tick, (wire_there net.done 1 valid.done, (wire_there net.fault 32 valid.fault, all_there net.drivers port_there)));
    operands = earlier_there;
    shown = λ i c at. shows_register net.table net.registers net.cells i c.width c.form (valid.cells i c at).form;
    nexts = λ k r at. wire_there r.next r.width (valid.registers k r at).next;
  }

-- What is marked is kept.

pub flag_inside : (flags : List Bool) (k : ℕ) → IsMarkedNumber flags k → k < length flags
flag_inside flags k on =
    elim (cases_lt k (length flags)) [
      | inl inside ↦ inside
      | inr past ↦ absurd (let no : false ≡ true = sym (get_or_past flags k false past) ∙ on in cc)
    ]

module _ (net : Net) (s : Swept) (h : AreSweptParts net s) where
  pub wire_kept : (wire : ℕ) → IsMarkedNumber h.marks.wires wire → IsKeptNumber h.at (new_number_in h.to) wire
  wire_kept wire on = h.wires.kept wire (flag_inside h.marks.wires wire on) on

  pub register_kept : (k : ℕ) → IsMarkedNumber h.marks.registers k → IsKeptNumber h.at_register (new_number_in h.to_register) k
  register_kept k on = h.held.kept k (flag_inside h.marks.registers k on) on

  -- new items stand where kept ones are
  pub new_cell : (j i : ℕ) (c : Cell) → slice_get h.at j ≡ Some i → slice_get net.cells i ≡ Some c → slice_get s.cells j ≡ Some (renamed_cell (new_number_in h.to) (new_number_in h.to_register) c)
  new_cell j i c at there = h.cells.each j i c (slice_get_within h.at j i at) at there

  pub new_register : (j i : ℕ) (r : Register) → slice_get h.at_register j ≡ Some i → slice_get net.registers i ≡ Some r → slice_get s.registers j ≡ Some (renamed_register (new_number_in h.to) r)
  new_register j i r at there = h.registers.each j i r (slice_get_within h.at_register j i at) at there

  data_kept : (d : Driver) (t : Bool) → d.write ≡ t → AllByRecursion (IsMarkedNumber h.marks.wires) (if t then d.data_ ∷ [] else []) → d.write ≡ true → IsKeptNumber h.at (new_number_in h.to) d.data_
  data_kept d true is m on = wire_kept d.data_ m.0
  data_kept d false is m on = absurd (let no : false ≡ true = sym is ∙ on in cc)

  drivers_kept : (ds : List Driver) → AllByRecursion (IsMarkedNumber h.marks.wires) (drivers_wires ds) → AllByRecursion (KeepsDriver h.at (new_number_in h.to)) ds
  drivers_kept [] m = tt
  drivers_kept (d ∷ ds) m =
      let own = all_front (IsMarkedNumber h.marks.wires) (driver_wires d) (drivers_wires ds) m in (
        record { enable = wire_kept d.enable own.0; row = wire_kept d.row own.1.0; out = data_kept d d.write refl own.1.1 },
        drivers_kept ds (all_back (IsMarkedNumber h.marks.wires) (driver_wires d) (drivers_wires ds) m),
      )

  ports_kept : (dss : List (List Driver)) → AllByRecursion (IsMarkedNumber h.marks.wires) (all_drivers_wires dss) → AllByRecursion (λ (ds : List Driver). AllByRecursion (KeepsDriver h.at (new_number_in h.to)) ds) dss
  ports_kept [] m = tt
  ports_kept (ds ∷ dss) m = (
    drivers_kept ds (all_front (IsMarkedNumber h.marks.wires) (drivers_wires ds) (all_drivers_wires dss) m),
    ports_kept dss (all_back (IsMarkedNumber h.marks.wires) (drivers_wires ds) (all_drivers_wires dss) m),
  )

  pub parts_sweep : (new : Net) → new.table ≡ net.table → new.faults ≡ net.faults → new.registers ≡ s.registers → new.cells ≡ s.cells → new.drivers ≡ s.drivers → new.tick ≡ s.tick → new.done ≡ s.done → new.fault ≡ s.fault → IsSwept net new
  parts_sweep new table faults registers cells drivers tick done fault =
      let roots = h.needed.roots in
      let wires_long = h.needed.long in
      let registers_long = h.needed.registers_long in
      record {
        at = h.at;
        to = new_number_in h.to;
        at_register = h.at_register;
        to_register = new_number_in h.to_register;
        long = sym (ap (λ (l : List Cell). length l) cells ∙ h.cells.long);
        registers_long = sym (ap (λ (l : List Register). length l) registers ∙ h.registers.long);
        there = λ j i at. (let inside = h.wires.there j i at in omega (arith, inside, wires_long));
        rises = h.wires.rises;
        cells = λ j i c at there. ap (λ (l : List Cell). slice_get l j) cells ∙ new_cell j i c at there;
        takes = λ j i c at there.
            all_so (IsMarkedNumber h.marks.wires) (IsKeptNumber h.at (new_number_in h.to)) (operands_of c.form) wire_kept (h.needed.operands i c there (h.wires.marked_ones j i at));
        shows = λ j i c at there.
            all_so (IsMarkedNumber h.marks.registers) (IsKeptNumber h.at_register (new_number_in h.to_register)) (registers_of c.form) register_kept (h.needed.shown i c there (h.wires.marked_ones j i at));
        registers_there = λ j i at. (let inside = h.held.there j i at in omega (arith, inside, registers_long));
        registers = λ j i r at there. ap (λ (l : List Register). slice_get l j) registers ∙ new_register j i r at there;
        nexts = λ j i r at there. wire_kept r.next (h.needed.nexts i r there (h.held.marked_ones j i at));
        drivers = drivers ∙ h.drivers;
        driven = ports_kept net.drivers roots.1.1.1;
        table = table;
        faults = faults;
        tick = tick ∙ h.tick;
        tick_kept = wire_kept net.tick roots.0;
        done = done ∙ h.done;
        done_kept = wire_kept net.done roots.1.0;
        fault = fault ∙ h.fault;
        fault_kept = wire_kept net.fault roots.1.1.0;
      }
