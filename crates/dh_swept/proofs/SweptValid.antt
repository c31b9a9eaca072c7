-- A net that keeps all cells and registers that are needed is valid where the whole net is.
use Rattle.std.proofs.Common.{◌≡◌, ℕ, zero, suc, Bool, true, false, if◌then◌else◌, Some, None, List, [], ◌∷◌, length, map, refl, sym, ap, subst, ◌∙◌}
use Rattle.std.specs.Prelude.{Option, slice_get, option_map}
use Rattle.std.specs.List.{AllByRecursion}
use Rattle.std.proofs.lemmas.List.{length-map}
use Rattle.std.proofs.lemmas.Option.{slice_get-map}
use Rattle.dh_tree.specs.declared.tables.MemEntry.{MemEntry}
use Rattle.dh_tree.specs.Shapes.{IsProgramTable}
use Rattle.dh_net.specs.BankPorts.{ports_of}
use Rattle.dh_net.specs.Valid.{HasWidth, IsOperand, AreOperands, FormFits, IsCell, IsRegister, IsDriver, IsValid, ReadsZero, HasReadsZero}
use Rattle.dh_net.specs.declared.nets.Cell.{Cell}
use Rattle.dh_net.specs.declared.nets.CellForm.{CellForm}
use Rattle.dh_net.specs.declared.nets.CellForm.TheVariants.{Const, Reg, Data, Add, Sub, Mul, And, Or, Xor, Shl, ShrU, ShrS, LtU, LtS, Eq, Mux, Zero, Sign, Low}
use Rattle.dh_net.specs.declared.nets.Driver.{Driver}
use Rattle.dh_net.specs.declared.nets.Net.{Net}
use Rattle.dh_net.specs.declared.nets.Register.{Register}
use Rattle.dh_net.specs.declared.ports.Port.{Port}
use Rattle.dh_swept.specs.RenamedWires.{operands_of, registers_of, renamed_form, renamed_cell, renamed_driver}
use Rattle.dh_swept.specs.SweptNets.{IsKeptNumber, KeepsDriver, IsSwept}
use Rattle.dh_swept.proofs.SweptValues.{cell_at, register_at, old_cell, old_register}

-- an item of a list that was mapped is of one of the list
pub of_mapped : {A B : Type 0} (f : A → B) (xs : List A) (i : ℕ) (y : B) → slice_get (map f xs) i ≡ Some y → (x : A) × ((slice_get xs i ≡ Some x) × (y ≡ f x))
of_mapped {A = A} {B = B} f xs i y at = by (slice_get xs i) refl (sym (slice_get-map f xs i) ∙ at)
  where
    by : (o : Option A) → slice_get xs i ≡ o → option_map f o ≡ Some y → (x : A) × ((slice_get xs i ≡ Some x) × (y ≡ f x))
    by None is e = absurd (cc)
    by (Some x) is e = (x, (is, (let same : y ≡ f x = cc in same)))

pub all_get : {A : Type 0} (P : A → Type 0) (xs : List A) (i : ℕ) (x : A) → AllByRecursion P xs → slice_get xs i ≡ Some x → P x
all_get P [] i x h at = absurd (cc)
all_get P (y ∷ xs) zero x h at = (let same : y ≡ x = cc in subst P same h.0)
all_get P (y ∷ xs) (suc i) x h at = all_get P xs i x h.1 at

module _ (old new : Net) (h : IsSwept old new) where
  kept_width : (a width : ℕ) → IsKeptNumber h.at h.to a → HasWidth old.cells a width → HasWidth new.cells (h.to a) width
  kept_width a width kept wide =
      let c = cell_at old new h a kept in
      ap (λ (o : Option Cell). option_map (λ (m : Cell). m.width) o) c.1.1 ∙ (sym (ap (λ (o : Option Cell). option_map (λ (m : Cell). m.width) o) c.1.0) ∙ wide)

  kept_register_width : (k width : ℕ) → IsKeptNumber h.at_register h.to_register k → option_map (λ (r : Register). r.width) (slice_get old.registers k) ≡ Some width
      → option_map (λ (r : Register). r.width) (slice_get new.registers (h.to_register k)) ≡ Some width
  kept_register_width k width kept wide =
      let r = register_at old new h k kept in
      ap (λ (o : Option Register). option_map (λ (q : Register). q.width) o) r.1.1 ∙ (sym (ap (λ (o : Option Register). option_map (λ (q : Register). q.width) o) r.1.0) ∙ wide)

  module _ (i j : ℕ) (here : slice_get h.at j ≡ Some i) where
    kept_operand : (a width : ℕ) → IsKeptNumber h.at h.to a → IsOperand old.cells i a width → IsOperand new.cells j (h.to a) width
    kept_operand a width kept o = record { earlier = h.rises (h.to a) j a i kept here o.earlier; wide = kept_width a width kept o.wide }

    kept_operands : (a b width : ℕ) → IsKeptNumber h.at h.to a → IsKeptNumber h.at h.to b → AreOperands old.cells i a b width → AreOperands new.cells j (h.to a) (h.to b) width
    kept_operands a b width ka kb o = record { left = kept_operand a width ka o.left; right = kept_operand b width kb o.right }

    kept_fits : (width : ℕ) (f : CellForm) → AllByRecursion (IsKeptNumber h.at h.to) (operands_of f) → AllByRecursion (IsKeptNumber h.at_register h.to_register) (registers_of f) → FormFits old.table old.registers old.cells i width f
        → FormFits old.table new.registers new.cells j width (renamed_form h.to h.to_register f)
    kept_fits width (Const bits) k g o = o
    kept_fits width (Reg register) k g o = kept_register_width register width g.0 o
    kept_fits width (Data memory bank port) k g o = o
    kept_fits width (Add a b) k g o = kept_operands a b width k.0 k.1.0 o
    kept_fits width (Sub a b) k g o = kept_operands a b width k.0 k.1.0 o
    kept_fits width (Mul a b) k g o = kept_operands a b width k.0 k.1.0 o
    kept_fits width (And a b) k g o = kept_operands a b width k.0 k.1.0 o
    kept_fits width (Or a b) k g o = kept_operands a b width k.0 k.1.0 o
    kept_fits width (Xor a b) k g o = kept_operands a b width k.0 k.1.0 o
    kept_fits width (Shl a b) k g o = (kept_operand a width k.0 o.0, (o.1.0, kept_operand b o.1.0 k.1.0 o.1.1))
    kept_fits width (ShrU a b) k g o = (kept_operand a width k.0 o.0, (o.1.0, kept_operand b o.1.0 k.1.0 o.1.1))
    kept_fits width (ShrS a b) k g o = (kept_operand a width k.0 o.0, (o.1.0, kept_operand b o.1.0 k.1.0 o.1.1))
    kept_fits width (LtU a b) k g o = (o.0, (o.1.0, kept_operands a b o.1.0 k.0 k.1.0 o.1.1))
    kept_fits width (LtS a b) k g o = (o.0, (o.1.0, kept_operands a b o.1.0 k.0 k.1.0 o.1.1))
    kept_fits width (Eq a b) k g o = (o.0, (o.1.0, kept_operands a b o.1.0 k.0 k.1.0 o.1.1))
    kept_fits width (Mux c a b) k g o = (kept_operand c 1 k.0 o.0, kept_operands a b width k.1.0 k.1.1.0 o.1)
    kept_fits width (Zero a) k g o = (o.0, (kept_operand a o.0 k.0 o.1.0, o.1.1))
    kept_fits width (Sign a) k g o = (o.0, (kept_operand a o.0 k.0 o.1.0, o.1.1))
    kept_fits width (Low a) k g o = (o.0, (kept_operand a o.0 k.0 o.1.0, o.1.1))

  module _ (valid : IsValid old) where
    swept_cell : (j : ℕ) (n : Cell) → slice_get new.cells j ≡ Some n → IsCell new.table new.registers new.cells j n
    swept_cell j n at =
        let o = old_cell old new h j n at in
        let i = o.0 in
        let c = o.1.0 in
        let good = valid.cells i c o.1.1.1.0 in
        subst (λ (m : Cell). IsCell new.table new.registers new.cells j m) (sym o.1.1.1.1)
        (subst (λ (t : List MemEntry). IsCell t new.registers new.cells j (renamed_cell h.to h.to_register c)) (sym h.table)
        (record {
          least = good.least;
          greatest = good.greatest;
          form = kept_fits i j o.1.1.0 c.width c.form (h.takes j i c o.1.1.0 o.1.1.1.0) (h.shows j i c o.1.1.0 o.1.1.1.0) good.form;
        }))

    swept_register : (j : ℕ) (n : Register) → slice_get new.registers j ≡ Some n → IsRegister new.cells n
    swept_register j n at =
        let o = old_register old new h j n at in
        let r = o.1.0 in
        let good = valid.registers o.0 r o.1.1.1.0 in
        subst (λ (q : Register). IsRegister new.cells q) (sym o.1.1.1.1)
        (record {
          least = good.least;
          greatest = good.greatest;
          initial = good.initial;
          next = kept_width r.next r.width (h.nexts j o.0 r o.1.1.0 o.1.1.1.0) good.next;
        })

    data_kept : (p : Port) (d : Driver) → KeepsDriver h.at h.to d → IsDriver old.cells p d → (t : Bool) → d.write ≡ t → (if t then h.to d.data_ else 0) ≡ (renamed_driver h.to d).data_ → d.write ≡ true → HasWidth new.cells (renamed_driver h.to d).data_ p.width
    data_kept p d k good true is same on = subst (λ (n : ℕ). HasWidth new.cells n p.width) same (kept_width d.data_ p.width (k.out is) (good.out is))
    data_kept p d k good false is same on = absurd (cc)

    swept_driver : (p : Port) (d : Driver) → KeepsDriver h.at h.to d → IsDriver old.cells p d → IsDriver new.cells p (renamed_driver h.to d)
    swept_driver p d k good = record {
      enable = kept_width d.enable 1 k.enable good.enable;
      row = kept_width d.row p.row_width k.row good.row;
      out = data_kept p d k good d.write refl refl;
    }

    reads_zero : (d : Driver) → (t : Bool) → d.write ≡ t → (if t then h.to d.data_ else 0) ≡ (renamed_driver h.to d).data_ → d.write ≡ false → (renamed_driver h.to d).data_ ≡ 0
    reads_zero d true is same off = absurd (cc)
    reads_zero d false is same off = sym same

    one_zero : (ds : List Driver) → AllByRecursion ReadsZero (map (renamed_driver h.to) ds)
    one_zero [] = tt
    one_zero (d ∷ ds) = (reads_zero d d.write refl refl, one_zero ds)

    all_zero : (dss : List (List Driver)) → AllByRecursion (λ (ds : List Driver). AllByRecursion ReadsZero ds) (map (λ (ds : List Driver). map (renamed_driver h.to) ds) dss)
    all_zero [] = tt
    all_zero (ds ∷ dss) = (one_zero ds, all_zero dss)

    pub swept_reads : HasReadsZero new
    swept_reads = subst (λ (l : List (List Driver)). AllByRecursion (λ (ds : List Driver). AllByRecursion ReadsZero ds) l) (sym h.drivers) (all_zero old.drivers)

    pub swept_valid : IsValid new
    swept_valid = record {
      table = subst (λ (t : List MemEntry). IsProgramTable t) (sym h.table) valid.table;
      registers = swept_register;
      cells = swept_cell;
      ports = ap (λ (l : List (List Driver)). length l) h.drivers ∙ (length-map old.drivers (λ (ds : List Driver). map (renamed_driver h.to) ds)
          ∙ (valid.ports ∙ ap (λ (t : List MemEntry). length (ports_of t)) (sym h.table)));
      drivers = λ q ds p list_at port_at k d at.
          let l = of_mapped (λ (es : List Driver). map (renamed_driver h.to) es) old.drivers q ds (ap (λ (m : List (List Driver)). slice_get m q) (sym h.drivers) ∙ list_at) in
          let e = of_mapped (renamed_driver h.to) l.0 k d (ap (λ (m : List Driver). slice_get m k) (sym l.1.1) ∙ at) in
          subst (λ (x : Driver). IsDriver new.cells p x) (sym e.1.1)
          (swept_driver p e.0 (all_get (KeepsDriver h.at h.to) l.0 k e.0 (all_get (λ (es : List Driver). AllByRecursion (KeepsDriver h.at h.to) es) old.drivers q l.0 h.driven l.1.0) e.1.0)
          (valid.drivers q l.0 p l.1.0 (subst (λ (t : List MemEntry). slice_get (ports_of t) q ≡ Some p) h.table port_at) k e.0 e.1.0));
      tick = subst (λ (n : ℕ). HasWidth new.cells n 1) (sym h.tick) (kept_width old.tick 1 h.tick_kept valid.tick);
      done = subst (λ (n : ℕ). HasWidth new.cells n 1) (sym h.done) (kept_width old.done 1 h.done_kept valid.done);
      fault = subst (λ (n : ℕ). HasWidth new.cells n 32) (sym h.fault) (kept_width old.fault 32 h.fault_kept valid.fault);
    }
