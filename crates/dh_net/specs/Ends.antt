-- The run of a net under a limit of clocks: it ends at the first clock at which it shows done, or a
-- fault that is the number of an entry (this project).
use Rattle.std.specs.Prelude.{◌≡◌, ℕ, ◌+◌, ◌-◌, ◌<◌, ◌≤◌, ◌==◌, ◌⊎◌, zero, suc, if◌then◌else◌, List, slice_get, slice_index, Option, Some, None}
use Rattle.dh_base.specs.declared.outcomes.FaultKind.{FaultKind}
use Rattle.dh_base.specs.declared.outcomes.Outcome.{Outcome}
use Rattle.dh_base.specs.declared.outcomes.Outcome.TheVariants.{Going, Ended, Faulted, Stuck}
use Rattle.dh_base.specs.declared.places.Place.{Place}
use Rattle.dh_net.specs.declared.nets.Net.{Net}
use Rattle.dh_net.specs.Clock.{State, Settles, Clocks, ClocksTo, start_of}

-- the entry that the fault output names, where it names one: from 1, and 0 is none
abbrev pub entry_at : List (FaultKind × Place) → ℕ → Option (FaultKind × Place)
entry_at faults n = if n == 0 then None else slice_get faults (n - 1)

-- the fault that the net shows by these wires
abbrev pub fault_shown : Net → List ℕ → Option (FaultKind × Place)
fault_shown net wires = entry_at net.faults (slice_index wires net.fault)

abbrev pub IsFault : Option (FaultKind × Place) → Type 0
IsFault None = ⊥
IsFault (Some f) = Unit {0}

-- the net shows that the run is over
abbrev pub ShowsEnd : Net → List ℕ → Type 0
ShowsEnd net wires = IsFault (fault_shown net wires) ⊎ (slice_index wires net.done ≡ 1)

-- so many clocks lead from the one state to the other, and after this many of them the net showed a tick
abbrev pub TicksTo : Net → (clocks : ℕ) → State → State → (ticks : ℕ) → Type 0
TicksTo net zero old new ticks = (old ≡ new) × (ticks ≡ 0)
TicksTo net (suc c) old new ticks =
    (mid : State) × ((before : ℕ) × ((wires : List ℕ) × (TicksTo net c old mid before × (Clocks net mid new × (Settles net new wires × (ticks ≡ before + (if slice_index wires net.tick == 1 then 1 else 0)))))))

-- how the run stands where it stops, by what the net shows there: a fault comes before done
abbrev pub StopsAs : Net → List ℕ → (clocks limit : ℕ) → Outcome → Type 0
StopsAs net wires clocks limit Going = (clocks ≡ limit) × (ShowsEnd net wires → ⊥)
StopsAs net wires clocks limit Ended = (IsFault (fault_shown net wires) → ⊥) × (slice_index wires net.done ≡ 1)
StopsAs net wires clocks limit (Faulted kind place) = fault_shown net wires ≡ Some (kind, place)
StopsAs net wires clocks limit (Stuck memory bank place) = ⊥

-- the run of a net from these memories under a limit of clocks
pub record IsRunOf (net : Net) (start : List (List ℕ)) (limit : ℕ) (outcome : Outcome) (steps clocks : ℕ) (memories : List (List ℕ)) : Type 0 where
  pub within : clocks ≤ limit
  pub last : State
  pub wires : List ℕ
  pub reached : TicksTo net clocks (start_of net start) last steps
  pub settled : Settles net last wires
  pub least : (c : ℕ) (s : State) (ws : List ℕ) → c < clocks → ClocksTo net c (start_of net start) s → Settles net s ws → ShowsEnd net ws → ⊥
  pub stops : StopsAs net wires clocks limit outcome
  pub contents : memories ≡ last.memories
