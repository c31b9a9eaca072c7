-- The drivers of ports, joined.
use Rattle.std.specs.Prelude.{◌≡◌, ℕ, ◌+◌, ◌*◌, ◌^◌, ◌<◌, ◌≤◌, ◌&&◌, ◌||◌, nat_le, Bool, true, false, if◌then◌else◌, List, [], ◌∷◌, length, slice_get, slice_index, Option, Some, None}
use Rattle.std.specs.List.{AllByRecursion}
use Rattle.dh_net.specs.Clock.{is_active, has_clash, has_stray, served}
use Rattle.dh_net.specs.Parts.{DrivePort}
use Rattle.dh_net.specs.Valid.{ReadsZero}
use Rattle.dh_net.specs.declared.nets.Cell.{Cell}
use Rattle.dh_net.specs.declared.nets.Driver.{Driver}
use Rattle.dh_net.specs.declared.ports.Port.{Port}
use Rattle.dh_join.specs.AddedCells.{GrowsByChoices, ShowsChoices, AreWireDepths}
use Rattle.dh_join.specs.JoinedDrivers.{count_kind, DriverIsWithin}

-- the most drivers of a port that stay as they are
abbrev pub most_kept : ℕ
most_kept = 4

-- a port has the drivers that it had, where they are few, else at most one that reads and one that writes
pub record LeavesFewDrivers (given joined : List Driver) : Type 0 where
  pub kept : length given ≤ most_kept → joined ≡ given
  pub reads : most_kept < length given → count_kind false joined ≤ 1
  pub writes : most_kept < length given → count_kind true joined ≤ 1

-- how many drivers of a port are joined
abbrev pub joined_of : List Driver → ℕ
joined_of ds = if nat_le (length ds) most_kept then 0 else length ds

-- and of all ports
abbrev pub joined_in : List (List Driver) → ℕ
joined_in [] = 0
joined_in (ds ∷ dss) = joined_of ds + joined_in dss

-- an active driver writes
abbrev pub any_write : (wires : List ℕ) → List Driver → Bool
any_write wires [] = false
any_write wires (d ∷ ds) = (is_active wires d && d.write) || any_write wires ds

-- by these wires the one driver does what the other does by those
pub record ServesAs (ws : List ℕ) (d : Driver) (vs : List ℕ) (e : Driver) : Type 0 where
  pub kind : e.write ≡ d.write
  pub row : slice_index vs e.row ≡ slice_index ws d.row
  pub out : d.write ≡ true → slice_index vs e.data_ ≡ slice_index ws d.data_

abbrev pub SameService : (ws : List ℕ) → Option Driver → (vs : List ℕ) → Option Driver → Type 0
SameService ws None vs None = Unit {0}
SameService ws None vs (Some e) = ⊥
SameService ws (Some d) vs None = ⊥
SameService ws (Some d) vs (Some e) = ServesAs ws d vs e

-- by these wires these drivers do on their port what those do by those
pub record DrivesAs (ws : List ℕ) (ds : List Driver) (vs : List ℕ) (es : List Driver) : Type 0 where
  pub clash : has_clash vs es ≡ true → has_clash ws ds ≡ true
  pub stray : (rows : ℕ) → has_stray vs es rows ≡ true → has_stray ws ds rows ≡ true
  pub serves : has_clash ws ds ≡ false → SameService ws (served ws ds) vs (served vs es)
  pub writes : any_write vs es ≡ true → any_write ws ds ≡ true

-- these drivers of a port, by these cells, are those ones joined
pub record JoinedIn (cells : List Cell) (port : Port) (given joined : List Driver) : Type 0 where
  pub few : LeavesFewDrivers given joined
  pub drive : DrivePort cells port joined
  pub zero : AllByRecursion ReadsZero given → AllByRecursion ReadsZero joined
  pub shows : (wires : List ℕ) → ShowsChoices cells wires → DrivesAs wires given wires joined
  pub deep : (depths : List ℕ) (most height : ℕ) → AreWireDepths cells depths → length given ≤ 2 ^ height → AllByRecursion (DriverIsWithin depths most) given
      → AllByRecursion (DriverIsWithin depths (most + height)) joined

-- one driver for each kind, by cells that were added
pub record BothJoined (old new : List Cell) (port : Port) (given joined : List Driver) : Type 0 where
  pub grows : GrowsByChoices old new (3 * length given)
  pub reads : count_kind false joined ≤ 1
  pub writes : count_kind true joined ≤ 1
  pub drive : DrivePort new port joined
  pub zero : AllByRecursion ReadsZero given → AllByRecursion ReadsZero joined
  pub shows : (wires : List ℕ) → ShowsChoices new wires → DrivesAs wires given wires joined
  pub deep : (depths : List ℕ) (most height : ℕ) → AreWireDepths new depths → length given ≤ 2 ^ height → AllByRecursion (DriverIsWithin depths most) given
      → AllByRecursion (DriverIsWithin depths (most + height)) joined

pub record PortJoined (old new : List Cell) (port : Port) (given joined : List Driver) : Type 0 where
  pub grows : GrowsByChoices old new (3 * joined_of given)
  pub here : JoinedIn new port given joined

-- each list drives the port with its number
abbrev pub DriveAllPorts : List Cell → List Port → List (List Driver) → Type 0
DriveAllPorts cells ports dss = (q : ℕ) (p : Port) (ds : List Driver) → slice_get ports q ≡ Some p → slice_get dss q ≡ Some ds → DrivePort cells p ds

-- the same of the lists of ports
abbrev pub AllJoinedIn : List Cell → List Port → (given joined : List (List Driver)) → Type 0
AllJoinedIn cells ports given joined =
    (q : ℕ) (p : Port) (ds es : List Driver) → slice_get ports q ≡ Some p → slice_get given q ≡ Some ds → slice_get joined q ≡ Some es → JoinedIn cells p ds es

pub record PortsJoined (old new : List Cell) (ports : List Port) (given joined : List (List Driver)) : Type 0 where
  pub grows : GrowsByChoices old new (3 * joined_in given)
  pub long : length joined ≡ length given
  pub each : AllJoinedIn new ports given joined

-- so many ports are joined, and what is left may still add its cells
pub record JoinedSoFar (old new : List Cell) (ports : List Port) (given joined : List (List Driver)) (count : ℕ) (left : List (List Driver)) : Type 0 where
  pub most : ℕ
  pub grows : GrowsByChoices old new most
  pub few : most + 3 * joined_in left ≤ 3 * joined_in given
  pub long : length joined ≡ count
  pub within : count ≤ length given
  pub each : AllJoinedIn new ports given joined
