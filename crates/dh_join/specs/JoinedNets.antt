-- A net whose ports have few drivers, and that does what a given one does as long as none of its ports has clashed.
use Rattle.std.specs.Prelude.{◌≡◌, ℕ, ◌+◌, ◌*◌, ◌^◌, ◌<◌, ◌≤◌, ◌⊎◌, true, false, List, length, slice_get, slice_index, Some}
use Rattle.std.specs.List.{AllByRecursion}
use Rattle.dh_tree.specs.Tables.{Fits}
use Rattle.dh_net.specs.Clock.{State, Settles, ClocksTo, start_of, has_clashes, strays}
use Rattle.dh_net.specs.Plays.{Run, Plays}
use Rattle.dh_net.specs.Valid.{IsValid, HasReadsZero}
use Rattle.dh_net.specs.declared.nets.Cell.{Cell}
use Rattle.dh_net.specs.declared.nets.Driver.{Driver}
use Rattle.dh_net.specs.declared.nets.Net.{Net}
use Rattle.dh_cells.specs.Settled.{BeginsWith}
use Rattle.dh_join.specs.AddedCells.{IsChoice, AreWireDepths}
use Rattle.dh_join.specs.JoinedDrivers.{DriverIsWithin}
use Rattle.dh_join.specs.JoinedPorts.{LeavesFewDrivers, any_write, joined_in}

-- from these memories the net has had no clash in so many clocks
abbrev pub HadNoClash : Net → (start : List (List ℕ)) → (clocks : ℕ) → Type 0
HadNoClash net start clocks =
    (c : ℕ) (s : State) (wires : List ℕ) → c < clocks → ClocksTo net c (start_of net start) s → Settles net s wires → has_clashes wires net.drivers ≡ false

-- in these states, by these wires, the new net keeps and shows what the old one does, and clashes, strays or writes only
-- where that does
pub record ShowsTheSame (old new : Net) (s t : State) (ws vs : List ℕ) : Type 0 where
  pub memories : t.memories ≡ s.memories
  pub held : t.held ≡ s.held
  pub tick : slice_index vs new.tick ≡ slice_index ws old.tick
  pub done : slice_index vs new.done ≡ slice_index ws old.done
  pub fault : slice_index vs new.fault ≡ slice_index ws old.fault
  pub clash : has_clashes vs new.drivers ≡ true → has_clashes ws old.drivers ≡ true
  pub stray : strays new vs ≡ true → strays old ws ≡ true
  pub writes : (port : ℕ) (ds es : List Driver) → slice_get old.drivers port ≡ Some ds → slice_get new.drivers port ≡ Some es
      → any_write vs es ≡ true → any_write ws ds ≡ true

pub record IsJoined (old new : Net) : Type 0 where
  pub valid : IsValid new
  pub table : new.table ≡ old.table
  pub faults : new.faults ≡ old.faults
  pub registers : new.registers ≡ old.registers
  pub ports : length new.drivers ≡ length old.drivers
  pub few : (port : ℕ) (ds es : List Driver) → slice_get old.drivers port ≡ Some ds → slice_get new.drivers port ≡ Some es → LeavesFewDrivers ds es
  pub zero_reads : HasReadsZero old → HasReadsZero new
  -- from all memories that fit, after any number of clocks in which the old net has had no clash
  pub same : (start : List (List ℕ)) → Fits old.table start
      → (clocks : ℕ) (s t : State) (ws vs : List ℕ) → HadNoClash old start clocks
      → ClocksTo old clocks (start_of old start) s → Settles old s ws → ClocksTo new clocks (start_of new start) t → Settles new t vs
      → ShowsTheSame old new s t ws vs
  -- the old cells stand where they stood; at most three new ones, each of `|` or `? :`, for each driver that is joined
  pub begins : BeginsWith new.cells old.cells
  pub added : (i : ℕ) (c : Cell) → slice_get new.cells i ≡ Some c → (slice_get old.cells i ≡ Some c) ⊎ IsChoice c.form
  pub small : length new.cells ≤ length old.cells + 3 * joined_in old.drivers
  -- the wires of a port's drivers are deeper by the height of a tree of them
  pub deep : (depths : List ℕ) → AreWireDepths new.cells depths
      → (port : ℕ) (ds es : List Driver) → slice_get old.drivers port ≡ Some ds → slice_get new.drivers port ≡ Some es
      → (most height : ℕ) → length ds ≤ 2 ^ height → AllByRecursion (DriverIsWithin depths most) ds → AllByRecursion (DriverIsWithin depths (most + height)) es

-- What a net plays, the joined one plays.
abbrev pub JoinedNetsPlay : Type 0
JoinedNetsPlay =
    (old new : Net) → IsValid old → IsJoined old new → (r : Run) (start : List (List ℕ)) → Fits old.table start → Plays old r start → Plays new r start
