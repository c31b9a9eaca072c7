-- A driver that stands for others of a port: for those that write, or for those that read. It does what the first
-- active one of them does.
use Rattle.std.specs.Prelude.{◌≡◌, ℕ, ◌+◌, ◌*◌, ◌^◌, ◌≤◌, ◌&&◌, ◌||◌, not, suc, Bool, true, false, if◌then◌else◌, List, [], ◌∷◌, length, slice_index, Option, Some, None}
use Rattle.std.specs.List.{AllByRecursion}
use Rattle.dh_net.specs.Clock.{is_active}
use Rattle.dh_net.specs.Valid.{HasWidth, IsDriver, ReadsZero}
use Rattle.dh_net.specs.declared.nets.Cell.{Cell}
use Rattle.dh_net.specs.declared.nets.Driver.{Driver}
use Rattle.dh_net.specs.declared.ports.Port.{Port}
use Rattle.dh_join.specs.AddedCells.{GrowsByChoices, ShowsChoices, AreWireDepths}

-- the driver writes, or reads
abbrev pub is_kind : (write : Bool) → Driver → Bool
is_kind true d = d.write
is_kind false d = not d.write

-- how many of these write, or read
abbrev pub count_kind : (write : Bool) → List Driver → ℕ
count_kind write [] = 0
count_kind write (d ∷ ds) = (if is_kind write d then 1 else 0) + count_kind write ds

-- the driver, where it is of this kind
abbrev pub driver_of_kind : (write : Bool) → Driver → Option Driver
driver_of_kind write d = if is_kind write d then Some d else None

abbrev pub drivers_in : Option Driver → List Driver
drivers_in None = []
drivers_in (Some d) = d ∷ []

-- the first active one of those that write, or read
abbrev pub first_active : (write : Bool) → (wires : List ℕ) → List Driver → Option Driver
first_active write wires [] = None
first_active write wires (d ∷ ds) = if is_active wires d && is_kind write d then Some d else first_active write wires ds

-- the one where it is there, else the other
abbrev pub former : Option Driver → Option Driver → Option Driver
former None other = other
former (Some d) other = Some d

-- the one driver is active, and does what the other does
pub record DoesAs (wires : List ℕ) (d e : Driver) : Type 0 where
  pub active : is_active wires d ≡ true
  pub kind : d.write ≡ e.write
  pub row : slice_index wires d.row ≡ slice_index wires e.row
  pub out : e.write ≡ true → slice_index wires d.data_ ≡ slice_index wires e.data_

-- the driver does what this one does, and is not active where there is none
abbrev pub DoesWhat : (wires : List ℕ) → Driver → Option Driver → Type 0
DoesWhat wires d None = is_active wires d ≡ false
DoesWhat wires d (Some e) = DoesAs wires d e

-- the same where there may be no driver
abbrev pub DriverStandsAs : (wires : List ℕ) → Option Driver → Option Driver → Type 0
DriverStandsAs wires None o = o ≡ None
DriverStandsAs wires (Some d) o = DoesWhat wires d o

-- a driver of the port, of this kind
abbrev pub IsDriverOfKind : List Cell → Port → (write : Bool) → Option Driver → Type 0
IsDriverOfKind cells port write None = Unit {0}
IsDriverOfKind cells port write (Some d) = IsDriver cells port d × (d.write ≡ write)

abbrev pub IsZero : Option Driver → Type 0
IsZero None = Unit {0}
IsZero (Some d) = ReadsZero d

-- each driver that is there takes the place of three cells
abbrev pub spared : Option Driver → ℕ
spared None = 0
spared (Some d) = 3

-- no wire that the driver takes is deeper
pub record DriverIsWithin (depths : List ℕ) (most : ℕ) (d : Driver) : Type 0 where
  pub enable : slice_index depths d.enable ≤ most
  pub row : slice_index depths d.row ≤ most
  pub out : d.write ≡ true → slice_index depths d.data_ ≤ most

abbrev pub FoundWithin : (depths : List ℕ) → (most : ℕ) → Option Driver → Type 0
FoundWithin depths most None = Unit {0}
FoundWithin depths most (Some d) = DriverIsWithin depths most d

-- a driver was added that does what the first active one of two does
pub record JoinsTwo (old new : List Cell) (port : Port) (first second joined : Driver) : Type 0 where
  pub grows : GrowsByChoices old new 3
  pub there : IsDriver new port joined
  pub kind : joined.write ≡ first.write
  pub zero : ReadsZero joined
  pub active : (wires : List ℕ) → ShowsChoices new wires → is_active wires joined ≡ (is_active wires first || is_active wires second)
  pub row : (wires : List ℕ) → ShowsChoices new wires
      → slice_index wires joined.row ≡ (if is_active wires first then slice_index wires first.row else slice_index wires second.row)
  pub out : (wires : List ℕ) → ShowsChoices new wires → first.write ≡ true
      → slice_index wires joined.data_ ≡ (if is_active wires first then slice_index wires first.data_ else slice_index wires second.data_)
  pub deep : (depths : List ℕ) (most : ℕ) → AreWireDepths new depths → DriverIsWithin depths most first → DriverIsWithin depths most second
      → DriverIsWithin depths (suc most) joined

-- the data of such a driver
pub record DataAdded (old new : List Cell) (port : Port) (first second : Driver) (wire : ℕ) : Type 0 where
  pub grows : GrowsByChoices old new 1
  pub wide : first.write ≡ true → HasWidth new wire port.width
  pub zero : first.write ≡ false → wire ≡ 0
  pub shows : (wires : List ℕ) → ShowsChoices new wires → first.write ≡ true
      → slice_index wires wire ≡ (if is_active wires first then slice_index wires first.data_ else slice_index wires second.data_)
  pub deep : (depths : List ℕ) (most : ℕ) → AreWireDepths new depths → DriverIsWithin depths most first → DriverIsWithin depths most second
      → first.write ≡ true → slice_index depths wire ≤ suc most

-- the same of drivers that may not be there
pub record JoinsFound (old new : List Cell) (port : Port) (write : Bool) (first second joined : Option Driver) : Type 0 where
  pub most : ℕ
  pub grows : GrowsByChoices old new most
  pub few : most + spared joined ≤ spared first + spared second
  pub there : IsDriverOfKind new port write joined
  pub zero : IsZero first → IsZero second → IsZero joined
  pub shows : (wires : List ℕ) → ShowsChoices new wires → (o p : Option Driver) → DriverStandsAs wires first o → DriverStandsAs wires second p
      → DriverStandsAs wires joined (former o p)
  pub deep : (depths : List ℕ) (most : ℕ) → AreWireDepths new depths → FoundWithin depths most first → FoundWithin depths most second
      → FoundWithin depths (suc most) joined

-- the driver, where there is one, stands for those of the list that write, or read
pub record StandsForDrivers (old new : List Cell) (port : Port) (write : Bool) (ds : List Driver) (joined : Option Driver) : Type 0 where
  pub most : ℕ
  pub grows : GrowsByChoices old new most
  pub few : most + spared joined ≤ 3 * count_kind write ds
  pub there : IsDriverOfKind new port write joined
  pub zero : AllByRecursion ReadsZero ds → IsZero joined
  pub shows : (wires : List ℕ) → ShowsChoices new wires → DriverStandsAs wires joined (first_active write wires ds)
  -- of as many drivers as a tree of this height has leaves
  pub deep : (depths : List ℕ) (most height : ℕ) → AreWireDepths new depths → length ds ≤ 2 ^ height → AllByRecursion (DriverIsWithin depths most) ds
      → FoundWithin depths (most + height) joined
