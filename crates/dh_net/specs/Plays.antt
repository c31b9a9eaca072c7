-- What it is for a net to play a program from given memories. The checked run of the program enters
-- as a `Run`: how it stands, what its memories are and how long each step is, whatever the language.
-- After c clocks, with n the number of steps that c clocks have room for:
-- no clock had a clash or a stray and no step spends more ports than a bank has; the memories are
-- those after n steps; tick is 1 exactly at the clock that ends a step; done is 1 exactly once the
-- run has ended; the fault output is not 0 exactly once the run has faulted, and names that fault.
use Rattle.std.specs.Prelude.{◌≡◌, ◌≢◌, ◌↔◌, ℕ, ◌+◌, ◌<◌, ◌≤◌, false, zero, suc, List, slice_index, Some}
use Rattle.dh_base.specs.declared.outcomes.FaultKind.{FaultKind}
use Rattle.dh_base.specs.declared.outcomes.Outcome.{Outcome}
use Rattle.dh_base.specs.declared.outcomes.Outcome.TheVariants.{Going, Ended, Faulted, Stuck}
use Rattle.dh_base.specs.declared.places.Place.{Place}
use Rattle.dh_net.specs.declared.nets.Net.{Net}
use Rattle.dh_net.specs.Clock.{State, Settles, ClocksTo, start_of, has_clashes, strays}
use Rattle.dh_net.specs.Ends.{fault_shown}

-- the checked run of a program, from given memories
pub record Run : Type 0 where
  -- how it stands after so many steps
  pub outcome : ℕ → Outcome
  -- the memories after so many steps
  pub memories : ℕ → List (List ℕ)
  -- the clocks of the step that follows so many steps
  pub length : ℕ → ℕ

-- the clocks of the first so many steps together
abbrev pub clocks_of : Run → ℕ → ℕ
clocks_of r zero = 0
clocks_of r (suc n) = clocks_of r n + r.length n

abbrev pub IsGoing : Outcome → Type 0
IsGoing Going = Unit {0}
IsGoing Ended = ⊥
IsGoing (Faulted kind place) = ⊥
IsGoing (Stuck memory bank place) = ⊥

abbrev pub IsStuck : Outcome → Type 0
IsStuck Going = ⊥
IsStuck Ended = ⊥
IsStuck (Faulted kind place) = ⊥
IsStuck (Stuck memory bank place) = Unit {0}

-- without fault, and without a bank beyond its ports
abbrev pub IsFine : Outcome → Type 0
IsFine Going = Unit {0}
IsFine Ended = Unit {0}
IsFine (Faulted kind place) = ⊥
IsFine (Stuck memory bank place) = ⊥

-- the run has this many steps, all without fault
abbrev pub HasSteps : Run → ℕ → Type 0
HasSteps r n = (k : ℕ) → k < n → IsGoing (r.outcome k) × IsFine (r.outcome (suc k))

-- the run ends after this many steps
pub record EndsAfter (r : Run) (n : ℕ) : Type 0 where
  pub steps : HasSteps r n
  pub ended : r.outcome n ≡ Ended

-- after this many steps the next one meets this fault
pub record FaultsAfter (r : Run) (n : ℕ) (kind : FaultKind) (place : Place) : Type 0 where
  pub steps : HasSteps r n
  pub going : IsGoing (r.outcome n)
  pub faulted : r.outcome (suc n) ≡ Faulted kind place

-- this is the greatest number of steps of the run that fit into so many clocks
pub record Fit (r : Run) (clocks n : ℕ) : Type 0 where
  pub steps : HasSteps r n
  pub within : clocks_of r n ≤ clocks
  pub greatest : (m : ℕ) → HasSteps r m → clocks_of r m ≤ clocks → m ≤ n

-- the step that follows n steps faults, and ends within so many clocks
pub record FaultsWithin (r : Run) (clocks : ℕ) : Type 0 where
  pub after : ℕ
  pub kind : FaultKind
  pub place : Place
  pub faults : FaultsAfter r after kind place
  pub within : clocks_of r after + r.length after ≤ clocks

-- each step of the run takes a clock at least
abbrev pub TakesClocks : Run → Type 0
TakesClocks r = (n : ℕ) → HasSteps r n → IsGoing (r.outcome n) → 1 ≤ r.length n

-- what the net shows by these wires, in a state after so many clocks in which n steps fit
pub record ShowsRun (net : Net) (r : Run) (clocks n : ℕ) (s : State) (wires : List ℕ) : Type 0 where
  pub no_clash : has_clashes wires net.drivers ≡ false
  pub no_stray : strays net wires ≡ false
  pub memories : s.memories ≡ r.memories n
  pub tick : (slice_index wires net.tick ≡ 1) ↔ ((0 < clocks) × (clocks ≡ clocks_of r n))
  pub done : (slice_index wires net.done ≡ 1) ↔ ((m : ℕ) × (EndsAfter r m × (clocks_of r m ≤ clocks)))
  pub fault : (slice_index wires net.fault ≢ 0) ↔ FaultsWithin r clocks
  pub names : (m : ℕ) (kind : FaultKind) (place : Place) → FaultsAfter r m kind place → clocks_of r m + r.length m ≤ clocks
      → fault_shown net wires ≡ Some (kind, place)

-- the net plays the run from these memories
pub record Plays (net : Net) (r : Run) (start : List (List ℕ)) : Type 0 where
  pub takes_clocks : TakesClocks r
  pub never_stuck : (n : ℕ) → IsStuck (r.outcome n) → ⊥
  pub fits : (clocks : ℕ) → (n : ℕ) × Fit r clocks n
  pub shows : (clocks n : ℕ) (s : State) (wires : List ℕ) → ClocksTo net clocks (start_of net start) s → Settles net s wires → Fit r clocks n
      → ShowsRun net r clocks n s wires
  -- there is a state after any number of clocks, and it has a valuation
  pub runs : (clocks : ℕ) → (s : State) × ((wires : List ℕ) × (ClocksTo net clocks (start_of net start) s × Settles net s wires))
