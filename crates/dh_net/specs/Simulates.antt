-- What a compiler shows of its net, clock by clock, so that the net plays a run.
-- Two relations tie the states of the net to the run. Inside n j s: the step that follows n steps is at its
-- clock j, from 0, in state s. Over n j s: the run was over after n steps, and j clocks have passed since.
-- Each fact speaks of one clock or of one state, and none counts clocks from the start.
use Rattle.std.specs.Prelude.{◌≡◌, ◌≢◌, ◌↔◌, ℕ, ◌<◌, false, suc, List, slice_index, Some}
use Rattle.dh_base.specs.declared.outcomes.FaultKind.{FaultKind}
use Rattle.dh_base.specs.declared.outcomes.Outcome.TheVariants.{Ended}
use Rattle.dh_base.specs.declared.places.Place.{Place}
use Rattle.dh_net.specs.declared.nets.Net.{Net}
use Rattle.dh_net.specs.Clock.{State, Settles, Clocks, start_of, has_clashes, strays}
use Rattle.dh_net.specs.Ends.{fault_shown}
use Rattle.dh_net.specs.Plays.{Run, IsGoing, IsStuck, IsFine, HasSteps, EndsAfter, FaultsAfter, TakesClocks}

-- what the net shows at clock j of the step that follows n steps
pub record ShowsStep (net : Net) (r : Run) (n j : ℕ) (s : State) (wires : List ℕ) : Type 0 where
  pub no_clash : has_clashes wires net.drivers ≡ false
  pub no_stray : strays net wires ≡ false
  pub memories : s.memories ≡ r.memories n
  pub tick : (slice_index wires net.tick ≡ 1) ↔ ((0 < n) × (j ≡ 0))
  pub not_done : slice_index wires net.done ≢ 1
  pub no_fault : slice_index wires net.fault ≡ 0

-- what it shows j clocks after the run ended, after n steps
pub record ShowsEnded (net : Net) (r : Run) (n j : ℕ) (s : State) (wires : List ℕ) : Type 0 where
  pub no_clash : has_clashes wires net.drivers ≡ false
  pub no_stray : strays net wires ≡ false
  pub memories : s.memories ≡ r.memories n
  pub tick : (slice_index wires net.tick ≡ 1) ↔ ((0 < n) × (j ≡ 0))
  pub done : slice_index wires net.done ≡ 1
  pub no_fault : slice_index wires net.fault ≡ 0

-- what it shows once the run has met this fault, after n steps
pub record ShowsFaulted (net : Net) (r : Run) (n : ℕ) (kind : FaultKind) (place : Place) (s : State) (wires : List ℕ) : Type 0 where
  pub no_clash : has_clashes wires net.drivers ≡ false
  pub no_stray : strays net wires ≡ false
  pub memories : s.memories ≡ r.memories n
  pub no_tick : slice_index wires net.tick ≢ 1
  pub not_done : slice_index wires net.done ≢ 1
  pub names : fault_shown net wires ≡ Some (kind, place)

-- from these memories the states of the net go along with the run by these relations
pub record Simulates (net : Net) (r : Run) (start : List (List ℕ)) (Inside Over : ℕ → ℕ → State → Type 0) : Type 0 where
  pub takes_clocks : TakesClocks r
  pub never_stuck : (n : ℕ) → IsStuck (r.outcome n) → ⊥
  pub begins : IsFine (r.outcome 0)
  -- every state has a valuation
  pub settles : (s : State) → (wires : List ℕ) × Settles net s wires
  -- the state before the first clock
  pub starts : IsGoing (r.outcome 0) → Inside 0 0 (start_of net start)
  pub starts_over : r.outcome 0 ≡ Ended → Over 0 0 (start_of net start)
  -- a clock that is not the last of its step
  pub waits : (n j : ℕ) (s s' : State) → HasSteps r n → IsGoing (r.outcome n) → suc j < r.length n
      → Inside n j s → Clocks net s s' → Inside n (suc j) s'
  -- the last clock of a step, by how the run stands after that step
  pub goes_on : (n j : ℕ) (s s' : State) → HasSteps r (suc n) → IsGoing (r.outcome (suc n)) → suc j ≡ r.length n
      → Inside n j s → Clocks net s s' → Inside (suc n) 0 s'
  pub ends : (n j : ℕ) (s s' : State) → EndsAfter r (suc n) → suc j ≡ r.length n → Inside n j s → Clocks net s s' → Over (suc n) 0 s'
  pub faults : (n j : ℕ) (kind : FaultKind) (place : Place) (s s' : State) → FaultsAfter r n kind place → suc j ≡ r.length n
      → Inside n j s → Clocks net s s' → Over n 0 s'
  -- a clock after the end
  pub stays : (n j : ℕ) (s s' : State) → Over n j s → Clocks net s s' → Over n (suc j) s'
  pub shows : (n j : ℕ) (s : State) (wires : List ℕ) → HasSteps r n → IsGoing (r.outcome n) → j < r.length n → Inside n j s
      → Settles net s wires → ShowsStep net r n j s wires
  pub shows_ended : (n j : ℕ) (s : State) (wires : List ℕ) → EndsAfter r n → Over n j s → Settles net s wires
      → ShowsEnded net r n j s wires
  pub shows_faulted : (n j : ℕ) (kind : FaultKind) (place : Place) (s : State) (wires : List ℕ) → FaultsAfter r n kind place
      → Over n j s → Settles net s wires → ShowsFaulted net r n kind place s wires
