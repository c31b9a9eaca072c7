-- A net that keeps some cells and registers of another, by new numbers.
use Rattle.std.specs.Prelude.{◌≡◌, ℕ, ◌<◌, true, List, length, map, slice_get, Some}
use Rattle.std.specs.List.{AllByRecursion}
use Rattle.dh_net.specs.declared.nets.Cell.{Cell}
use Rattle.dh_net.specs.declared.nets.Driver.{Driver}
use Rattle.dh_net.specs.declared.nets.Net.{Net}
use Rattle.dh_net.specs.declared.nets.Register.{Register}
use Rattle.dh_swept.specs.RenamedWires.{operands_of, registers_of, renamed_cell, renamed_register, renamed_driver}

-- `at` has the old number of each new cell; the wire is kept, and its new number is that of `to`. The same of registers.
abbrev pub IsKeptNumber : (at : List ℕ) → (to : ℕ → ℕ) → (wire : ℕ) → Type 0
IsKeptNumber at to wire = slice_get at (to wire) ≡ Some wire

-- a driver's wires are kept; a read takes no data
pub record KeepsDriver (at : List ℕ) (to : ℕ → ℕ) (d : Driver) : Type 0 where
  pub enable : IsKeptNumber at to d.enable
  pub row : IsKeptNumber at to d.row
  pub out : d.write ≡ true → IsKeptNumber at to d.data_

pub record IsSwept (old new : Net) : Type 0 where
  pub at : List ℕ
  pub to : ℕ → ℕ
  pub at_register : List ℕ
  pub to_register : ℕ → ℕ
  pub long : length at ≡ length new.cells
  pub registers_long : length at_register ≡ length new.registers
  -- the cells that are kept are there, in their order, with all that they take
  pub there : (j i : ℕ) → slice_get at j ≡ Some i → i < length old.cells
  pub rises : (j k a b : ℕ) → slice_get at j ≡ Some a → slice_get at k ≡ Some b → a < b → j < k
  pub cells : (j i : ℕ) (c : Cell) → slice_get at j ≡ Some i → slice_get old.cells i ≡ Some c → slice_get new.cells j ≡ Some (renamed_cell to to_register c)
  pub takes : (j i : ℕ) (c : Cell) → slice_get at j ≡ Some i → slice_get old.cells i ≡ Some c → AllByRecursion (IsKeptNumber at to) (operands_of c.form)
  pub shows : (j i : ℕ) (c : Cell) → slice_get at j ≡ Some i → slice_get old.cells i ≡ Some c → AllByRecursion (IsKeptNumber at_register to_register) (registers_of c.form)
  -- so are the registers that they show, with the wires that these take
  pub registers_there : (j i : ℕ) → slice_get at_register j ≡ Some i → i < length old.registers
  pub registers : (j i : ℕ) (r : Register) → slice_get at_register j ≡ Some i → slice_get old.registers i ≡ Some r → slice_get new.registers j ≡ Some (renamed_register to r)
  pub nexts : (j i : ℕ) (r : Register) → slice_get at_register j ≡ Some i → slice_get old.registers i ≡ Some r → IsKeptNumber at to r.next
  -- and so are the wires that drivers and outputs take
  pub drivers : new.drivers ≡ map (λ (ds : List Driver). map (renamed_driver to) ds) old.drivers
  pub driven : AllByRecursion (λ (ds : List Driver). AllByRecursion (KeepsDriver at to) ds) old.drivers
  pub table : new.table ≡ old.table
  pub faults : new.faults ≡ old.faults
  pub tick : new.tick ≡ to old.tick
  pub tick_kept : IsKeptNumber at to old.tick
  pub done : new.done ≡ to old.done
  pub done_kept : IsKeptNumber at to old.done
  pub fault : new.fault ≡ to old.fault
  pub fault_kept : IsKeptNumber at to old.fault
