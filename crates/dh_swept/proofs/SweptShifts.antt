-- A net that keeps all cells and registers that are needed shifts by the constants by which the whole net does.
use Rattle.std.proofs.Common.{◌≡◌, ℕ, ◌<◌, refl, sym, ap, subst, ◌∙◌}
use Rattle.std.specs.Prelude.{Option, IfSome}
use Rattle.std.specs.List.{AllByRecursion}
use Rattle.dh_net.specs.declared.nets.Cell.{Cell}
use Rattle.dh_net.specs.declared.nets.CellForm.{CellForm}
use Rattle.dh_net.specs.declared.nets.CellForm.TheVariants.{Const, Reg, Data, Add, Sub, Mul, And, Or, Xor, Shl, ShrU, ShrS, LtU, LtS, Eq, Mux, Zero, Sign, Low}
use Rattle.dh_net.specs.declared.nets.Net.{Net}
use Rattle.dh_cells.specs.NarrowShifts.{form_bits, cell_bits, constant_at, IsBelow, ShiftsLess, HasNarrowShifts}
use Rattle.dh_swept.specs.RenamedWires.{operands_of, renamed_form}
use Rattle.dh_swept.specs.SweptNets.{IsKeptNumber, IsSwept}
use Rattle.dh_swept.proofs.SweptValues.{cell_at, old_cell}

-- a constant takes no wire
same_bits : (to to_register : ℕ → ℕ) (f : CellForm) → form_bits (renamed_form to to_register f) ≡ form_bits f
same_bits to to_register (Const bits) = refl
same_bits to to_register (Reg register) = refl
same_bits to to_register (Data memory bank port) = refl
same_bits to to_register (Add a b) = refl
same_bits to to_register (Sub a b) = refl
same_bits to to_register (Mul a b) = refl
same_bits to to_register (And a b) = refl
same_bits to to_register (Or a b) = refl
same_bits to to_register (Xor a b) = refl
same_bits to to_register (Shl a b) = refl
same_bits to to_register (ShrU a b) = refl
same_bits to to_register (ShrS a b) = refl
same_bits to to_register (LtU a b) = refl
same_bits to to_register (LtS a b) = refl
same_bits to to_register (Eq a b) = refl
same_bits to to_register (Mux c a b) = refl
same_bits to to_register (Zero a) = refl
same_bits to to_register (Sign a) = refl
same_bits to to_register (Low a) = refl

module _ (old new : Net) (h : IsSwept old new) where
  same_constant : (a : ℕ) → IsKeptNumber h.at h.to a → constant_at new.cells (h.to a) ≡ constant_at old.cells a
  same_constant a kept = let c = cell_at old new h a kept in ap cell_bits c.1.1 ∙ (same_bits h.to h.to_register c.0.form ∙ sym (ap cell_bits c.1.0))

  below_still : (a bound : ℕ) → IsKeptNumber h.at h.to a → IsBelow old.cells a bound → IsBelow new.cells (h.to a) bound
  below_still a bound kept below = subst (λ (o : Option ℕ). IfSome o (λ (bits : ℕ). bits < bound)) (sym (same_constant a kept)) below

  shifts_still : (width : ℕ) (f : CellForm) → AllByRecursion (IsKeptNumber h.at h.to) (operands_of f) → ShiftsLess old.cells width f → ShiftsLess new.cells width (renamed_form h.to h.to_register f)
  shifts_still width (Const bits) k s = tt
  shifts_still width (Reg register) k s = tt
  shifts_still width (Data memory bank port) k s = tt
  shifts_still width (Add a b) k s = tt
  shifts_still width (Sub a b) k s = tt
  shifts_still width (Mul a b) k s = tt
  shifts_still width (And a b) k s = tt
  shifts_still width (Or a b) k s = tt
  shifts_still width (Xor a b) k s = tt
  shifts_still width (Shl a b) k s = below_still b width k.1.0 s
  shifts_still width (ShrU a b) k s = below_still b width k.1.0 s
  shifts_still width (ShrS a b) k s = below_still b width k.1.0 s
  shifts_still width (LtU a b) k s = tt
  shifts_still width (LtS a b) k s = tt
  shifts_still width (Eq a b) k s = tt
  shifts_still width (Mux c a b) k s = tt
  shifts_still width (Zero a) k s = tt
  shifts_still width (Sign a) k s = tt
  shifts_still width (Low a) k s = tt

  pub swept_shifts : HasNarrowShifts old.cells → HasNarrowShifts new.cells
  swept_shifts narrow j n at =
      let o = old_cell old new h j n at in
      let c = o.1.0 in
      subst (λ (m : Cell). ShiftsLess new.cells m.width m.form) (sym o.1.1.1.1) (shifts_still c.width c.form (h.takes j o.0 c o.1.1.0 o.1.1.1.0) (narrow o.0 c o.1.1.1.0))
