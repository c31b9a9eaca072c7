-- Which cells and registers of a net are needed: those that drivers and outputs take, and what needed ones take.
use Rattle.std.specs.Prelude.{◌≡◌, ℕ, ◌<◌, Bool, true, false, if◌then◌else◌, List, [], ◌∷◌, ◌++◌, length, get_or, slice_get, Some}
use Rattle.std.specs.List.{AllByRecursion}
use Rattle.dh_net.specs.declared.nets.Cell.{Cell}
use Rattle.dh_net.specs.declared.nets.Driver.{Driver}
use Rattle.dh_net.specs.declared.nets.Net.{Net}
use Rattle.dh_net.specs.declared.nets.Register.{Register}
use Rattle.dh_swept.specs.RenamedWires.{operands_of, registers_of}
use Rattle.dh_swept.specs.declared.marking.Marks.{Marks}

-- what has this number is marked
abbrev pub IsMarkedNumber : List Bool → (number : ℕ) → Type 0
IsMarkedNumber flags number = get_or flags number false ≡ true

-- the wires that a driver takes
abbrev pub driver_wires : Driver → List ℕ
driver_wires d = d.enable ∷ d.row ∷ (if d.write then d.data_ ∷ [] else [])

abbrev pub drivers_wires : List Driver → List ℕ
drivers_wires [] = []
drivers_wires (d ∷ ds) = driver_wires d ++ drivers_wires ds

abbrev pub all_drivers_wires : List (List Driver) → List ℕ
all_drivers_wires [] = []
all_drivers_wires (ds ∷ dss) = drivers_wires ds ++ all_drivers_wires dss

-- the wires that a net needs, whatever its cells and registers are
abbrev pub root_wires : Net → List ℕ
root_wires net = net.tick ∷ net.done ∷ net.fault ∷ all_drivers_wires net.drivers

-- A set of wires and one of registers that have all that a net needs: what drivers and outputs take, with each wire the wires
-- and the register that its cell takes, and with each register the wire that it takes.
pub record HasNeeded (net : Net) (needed held : ℕ → Bool) : Type 0 where
  pub roots : AllByRecursion (λ a. needed a ≡ true) (root_wires net)
  pub operands : (i : ℕ) (c : Cell) → slice_get net.cells i ≡ Some c → needed i ≡ true → AllByRecursion (λ a. needed a ≡ true) (operands_of c.form)
  pub shown : (i : ℕ) (c : Cell) → slice_get net.cells i ≡ Some c → needed i ≡ true → AllByRecursion (λ k. held k ≡ true) (registers_of c.form)
  pub nexts : (k : ℕ) (r : Register) → slice_get net.registers k ≡ Some r → held k ≡ true → needed r.next ≡ true

-- each cell and each register of the net is needed: all such sets have its wire, or it
pub record NeedsAll (net : Net) : Type 0 where
  pub each_cell : (needed held : ℕ → Bool) → HasNeeded net needed held → (wire : ℕ) → wire < length net.cells → needed wire ≡ true
  pub each_register : (needed held : ℕ → Bool) → HasNeeded net needed held → (register : ℕ) → register < length net.registers → held register ≡ true

-- nothing is marked that a set has not
abbrev pub MarksOnly : List Bool → (needed : ℕ → Bool) → Type 0
MarksOnly flags needed = (number : ℕ) → IsMarkedNumber flags number → needed number ≡ true

-- all that is needed is marked, and nothing else
pub record MarksNeeded (net : Net) (m : Marks) : Type 0 where
  pub long : length m.wires ≡ length net.cells
  pub registers_long : length m.registers ≡ length net.registers
  pub roots : AllByRecursion (IsMarkedNumber m.wires) (root_wires net)
  pub operands : (i : ℕ) (c : Cell) → slice_get net.cells i ≡ Some c → IsMarkedNumber m.wires i → AllByRecursion (IsMarkedNumber m.wires) (operands_of c.form)
  pub shown : (i : ℕ) (c : Cell) → slice_get net.cells i ≡ Some c → IsMarkedNumber m.wires i → AllByRecursion (IsMarkedNumber m.registers) (registers_of c.form)
  pub nexts : (k : ℕ) (r : Register) → slice_get net.registers k ≡ Some r → IsMarkedNumber m.registers k → IsMarkedNumber m.wires r.next
  pub only : (needed held : ℕ → Bool) → HasNeeded net needed held → MarksOnly m.wires needed
  pub only_held : (needed held : ℕ → Bool) → HasNeeded net needed held → MarksOnly m.registers held

-- what a net needs is there
pub record CanMark (net : Net) : Type 0 where
  pub roots : AllByRecursion (λ a. a < length net.cells) (root_wires net)
  pub operands : (i : ℕ) (c : Cell) → slice_get net.cells i ≡ Some c → AllByRecursion (λ a. a < length net.cells) (operands_of c.form)
  pub shown : (i : ℕ) (c : Cell) → slice_get net.cells i ≡ Some c → AllByRecursion (λ k. k < length net.registers) (registers_of c.form)
  pub nexts : (k : ℕ) (r : Register) → slice_get net.registers k ≡ Some r → r.next < length net.cells
