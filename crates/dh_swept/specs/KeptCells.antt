-- The marked ones of several, in order, by new numbers.
use Rattle.std.specs.Prelude.{◌≡◌, ℕ, ◌<◌, Bool, if◌then◌else◌, List, [], ◌∷◌, ◌++◌, length, map, slice_get, slice_index, Some}
use Rattle.dh_net.specs.declared.nets.Cell.{Cell}
use Rattle.dh_net.specs.declared.nets.Driver.{Driver}
use Rattle.dh_net.specs.declared.nets.Register.{Register}
use Rattle.dh_swept.specs.NeededCells.{IsMarkedNumber}
use Rattle.dh_swept.specs.RenamedWires.{renamed_cell, renamed_register, renamed_drivers}
use Rattle.dh_swept.specs.SweptNets.{IsKeptNumber}

-- the new number of what had this one
abbrev pub new_number_in : List ℕ → ℕ → ℕ
new_number_in to number = slice_index to number

-- `at` has the old numbers of the marked ones below n in their order, and `to` the new number of each below n that is marked
pub record RenumbersMarked (n : ℕ) (flags : List Bool) (at to : List ℕ) : Type 0 where
  pub numbers : length to ≡ n
  pub there : (j i : ℕ) → slice_get at j ≡ Some i → i < n
  pub marked_ones : (j i : ℕ) → slice_get at j ≡ Some i → IsMarkedNumber flags i
  pub rises : (j k a b : ℕ) → slice_get at j ≡ Some a → slice_get at k ≡ Some b → a < b → j < k
  pub back : (j i : ℕ) → slice_get at j ≡ Some i → new_number_in to i ≡ j
  pub kept : (i : ℕ) → i < n → IsMarkedNumber flags i → IsKeptNumber at (new_number_in to) i

-- the same of all that have a flag
abbrev pub NumbersAll : List Bool → (at to : List ℕ) → Type 0
NumbersAll flags at to = RenumbersMarked (length flags) flags at to

-- a number that stands behind these if it is marked
abbrev pub behind_if : (is_marked : Bool) → (number : ℕ) → List ℕ → List ℕ
behind_if is_marked number at = if is_marked then at ++ number ∷ [] else at

-- old numbers below a bound
abbrev pub AreBelow : (bound : ℕ) → (at : List ℕ) → Type 0
AreBelow bound at = (j i : ℕ) → slice_get at j ≡ Some i → i < bound

-- the first n of the new items are the old ones with these numbers, renamed
pub record AreKeptItems {A : Type 0} (n : ℕ) (rename : A → A) (at : List ℕ) (olds news : List A) : Type 0 where
  pub long : length news ≡ n
  pub each : (j i : ℕ) (x : A) → j < n → slice_get at j ≡ Some i → slice_get olds i ≡ Some x → slice_get news j ≡ Some (rename x)

-- cells with these old numbers are kept, by new numbers of what they take and show
abbrev pub KeepsCells : (at to to_register : List ℕ) → (olds news : List Cell) → Type 0
KeepsCells at to to_register olds news = AreKeptItems (length at) (renamed_cell (new_number_in to) (new_number_in to_register)) at olds news

-- registers with these old numbers are kept, by new numbers of the wires that they take
abbrev pub KeepsRegisters : (at to : List ℕ) → (olds news : List Register) → Type 0
KeepsRegisters at to olds news = AreKeptItems (length at) (renamed_register (new_number_in to)) at olds news

-- the drivers of all ports are kept, by new numbers of the wires that they take
abbrev pub KeepsDrivers : (to : List ℕ) → (olds news : List (List Driver)) → Type 0
KeepsDrivers to olds news = news ≡ map (renamed_drivers (new_number_in to)) olds
