-- A run of a net that has not ended before its present state, and how it stands there.
use Rattle.std.specs.Prelude.{◌≡◌, ℕ, ◌<◌, Bool, List, slice_index, Option, Some, None}
use Rattle.dh_base.specs.declared.outcomes.Outcome.{Outcome}
use Rattle.dh_base.specs.declared.outcomes.Outcome.TheVariants.{Going, Ended, Faulted, Stuck}
use Rattle.dh_net.specs.declared.nets.Net.{Net}
use Rattle.dh_net.specs.Clock.{State, Settles, ClocksTo}
use Rattle.dh_net.specs.Ends.{IsFault, ShowsEnd, TicksTo, fault_shown, StopsAs, IsRunOf}
use Rattle.dh_tree.specs.Tables.{Fits}
use Rattle.dh_sim.specs.Shows.{ShowsAs}
use Rattle.dh_sim.specs.declared.arrays.Shown.{Shown}
use Rattle.dh_sim.specs.declared.runs.RunEnd.{RunEnd}

-- so many clocks, with so many ticks, lead from the first state to this one, and before it the net showed no end
pub record IsUnderway (net : Net) (first : State) (clocks : ℕ) (s : State) (steps : ℕ) : Type 0 where
  pub reached : TicksTo net clocks first s steps
  pub least : (c : ℕ) (t : State) (ws : List ℕ) → c < clocks → ClocksTo net c first t → Settles net t ws → ShowsEnd net ws → ⊥

-- by these wires the net shows this end, or none
abbrev pub IsEndShown : Net → List ℕ → Option Outcome → Type 0
IsEndShown net wires None = ShowsEnd net wires → ⊥
IsEndShown net wires (Some Going) = ⊥
IsEndShown net wires (Some Ended) = (IsFault (fault_shown net wires) → ⊥) × (slice_index wires net.done ≡ 1)
IsEndShown net wires (Some (Faulted kind place)) = fault_shown net wires ≡ Some (kind, place)
IsEndShown net wires (Some (Stuck memory bank place)) = ⊥

-- a net that shows this shows this end, or none
abbrev pub TellsEnd : Net → Shown → Option Outcome → Type 0
TellsEnd net shown end = (wires : List ℕ) (clash : Bool) → ShowsAs shown net wires clash → IsEndShown net wires end

-- a run under a limit stops so in this state
abbrev pub StopsIn : Net → State → (clocks limit : ℕ) → Outcome → Type 0
StopsIn net s clocks limit outcome = (wires : List ℕ) → Settles net s wires → StopsAs net wires clocks limit outcome

-- the run of the net from this start under a limit ends so, with these memories, which fit the net's
abbrev pub RunsTo : Net → (start : List (List ℕ)) → (limit : ℕ) → RunEnd → List (List ℕ) → Type 0
RunsTo net start limit end memories = IsRunOf net start limit end.outcome end.steps end.clocks memories × Fits net.table memories
