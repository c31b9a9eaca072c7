-- What is new of a net without the cells and registers that it does not need.
use Rattle.std.specs.Prelude.{◌≡◌, List, ℕ}
use Rattle.dh_net.specs.declared.nets.Net.{Net}
use Rattle.dh_swept.specs.declared.marking.Marks.{Marks}
use Rattle.dh_swept.specs.declared.sweeping.Swept.{Swept}
use Rattle.dh_swept.specs.KeptCells.{NumbersAll, KeepsCells, KeepsRegisters, KeepsDrivers, new_number_in}
use Rattle.dh_swept.specs.NeededCells.{MarksNeeded}

pub record AreSweptParts (net : Net) (s : Swept) : Type 0 where
  pub marks : Marks
  pub at : List ℕ
  pub to : List ℕ
  pub at_register : List ℕ
  pub to_register : List ℕ
  pub needed : MarksNeeded net marks
  pub wires : NumbersAll marks.wires at to
  pub held : NumbersAll marks.registers at_register to_register
  pub cells : KeepsCells at to to_register net.cells s.cells
  pub registers : KeepsRegisters at_register to net.registers s.registers
  pub drivers : KeepsDrivers to net.drivers s.drivers
  pub tick : s.tick ≡ new_number_in to net.tick
  pub done : s.done ≡ new_number_in to net.done
  pub fault : s.fault ≡ new_number_in to net.fault
