-- The local facts of a simulation make the net play the run.
-- By induction on the clocks, each state that they reach stands either at a clock of a step that the run has
-- (`in_step`), or at or after the end (`at_end`), or at or after the end of the step that faulted
-- (`at_fault`). From where it stands follow how many steps fit and what the net has to show. Every state has
-- a valuation and so a next state, hence there is a state after any number of clocks.
use Rattle.std.proofs.Common.{◌≡◌, ◌≢◌, ℕ, ◌+◌, ◌<◌, zero, suc, inl, inr, List, map, slice_index, Some, None, refl, ap, sym, subst, arith}
use Rattle.std.proofs.lemmas.Bool.{cases_lt}
use Rattle.dh_base.specs.declared.outcomes.FaultKind.{FaultKind}
use Rattle.dh_base.specs.declared.outcomes.Outcome.{Outcome}
use Rattle.dh_base.specs.declared.outcomes.Outcome.TheVariants.{Going, Ended, Faulted, Stuck}
use Rattle.dh_base.specs.declared.places.Place.{Place}
use Rattle.dh_net.specs.BankPorts.{ports_of}
use Rattle.dh_net.specs.declared.nets.Net.{Net}
use Rattle.dh_net.specs.Clock.{State, Settles, Clocks, ClocksTo, start_of, held_after, memories_after}
use Rattle.dh_net.specs.Ends.{entry_at, fault_shown}
use Rattle.dh_net.specs.Plays.{Run, clocks_of, IsGoing, IsStuck, IsFine, HasSteps, EndsAfter, FaultsAfter, Fit, ShowsRun, Plays}
use Rattle.dh_net.specs.Simulates.{Simulates, ShowsStep, ShowsEnded, ShowsFaulted}
use Rattle.dh_net.proofs.Fits.{one_fault, no_fault_at_end, steps_more, one_fit, fit_in_step, fit_at_end, fit_at_fault, not_ended_within, not_faulted_within, first_clock}

-- where a state stands after c clocks
pub data Stand (r : Run) (Inside Over : ℕ → ℕ → State → Type 0) (c : ℕ) (s : State) : Type 0 where
  in_step : (n j : ℕ) → HasSteps r n → IsGoing (r.outcome n) → j < r.length n → c ≡ clocks_of r n + j → Inside n j s → Stand r Inside Over c s
  at_end : (n j : ℕ) → EndsAfter r n → c ≡ clocks_of r n + j → Over n j s → Stand r Inside Over c s
  at_fault : (n j : ℕ) (kind : FaultKind) (place : Place) → FaultsAfter r n kind place → c ≡ (clocks_of r n + r.length n) + j → Over n j s → Stand r Inside Over c s

-- a net that shows a fault has its fault output not at 0
pub names_some : (net : Net) (kind : FaultKind) (place : Place) (wires : List ℕ) → fault_shown net wires ≡ Some (kind, place) → slice_index wires net.fault ≢ 0
names_some net kind place wires names none =
    let e : fault_shown net wires ≡ None = ap (entry_at net.faults) none in
    cc

module _ (net : Net) (r : Run) (start : List (List ℕ)) (Inside Over : ℕ → ℕ → State → Type 0) (sim : Simulates net r start Inside Over) where
  -- the next state
  next_state : (s : State) → (t : State) × Clocks net s t
  next_state s =
      let settled = sim.settles s in (
        record { registers = map (λ x. slice_index settled.0 x.next) net.registers; held = held_after net.table settled.0 net.drivers (ports_of net.table) s.memories s.held; memories = memories_after net.table settled.0 net.drivers (ports_of net.table) s.memories },
        record { wires = settled.0; settled = settled.1; registers = refl; held = refl; memories = refl },
      )

  reached : (c : ℕ) → (s : State) × ClocksTo net c (start_of net start) s
  reached zero = (start_of net start, refl)
  reached (suc c) =
      let before = reached c in
      let after = next_state before.0 in
      (after.0, (before.0, (before.1, after.1)))

  -- before the first clock
  starts_at : (o : Outcome) → r.outcome 0 ≡ o → Stand r Inside Over 0 (start_of net start)
  starts_at Going is =
      let going = subst (λ (o : Outcome). IsGoing o) (sym is) tt in
      in_step 0 0 (λ k below. absurd (omega arith)) going (sim.takes_clocks 0 (λ k below. absurd (omega arith)) going) refl (sim.starts going)
  starts_at Ended is = at_end 0 0 (record { steps = λ k below. absurd (omega arith); ended = is }) refl (sim.starts_over is)
  starts_at (Faulted kind place) is = absurd (subst (λ (o : Outcome). IsFine o) is sim.begins)
  starts_at (Stuck memory bank place) is = absurd (subst (λ (o : Outcome). IsFine o) is sim.begins)

  -- over the last clock of a step
  turns : (c n j : ℕ) (s t : State) → HasSteps r n → IsGoing (r.outcome n) → suc j ≡ r.length n → c ≡ clocks_of r n + j → Inside n j s → Clocks net s t
      → (o : Outcome) → r.outcome (suc n) ≡ o → Stand r Inside Over (suc c) t
  turns c n j s t steps going last at inside clock Going is =
      let goes = subst (λ (o : Outcome). IsGoing o) (sym is) tt in
      let fine = subst (λ (o : Outcome). IsFine o) (sym is) tt in
      let more = steps_more r n steps going fine in
      in_step (suc n) 0 more goes (sim.takes_clocks (suc n) more goes) (omega arith) (sim.goes_on n j s t more goes last inside clock)
  turns c n j s t steps going last at inside clock Ended is =
      let fine = subst (λ (o : Outcome). IsFine o) (sym is) tt in
      let ends : EndsAfter r (suc n) = record { steps = steps_more r n steps going fine; ended = is } in
      at_end (suc n) 0 ends (omega arith) (sim.ends n j s t ends last inside clock)
  turns c n j s t steps going last at inside clock (Faulted kind place) is =
      let faults : FaultsAfter r n kind place = record { steps = steps; going = going; faulted = is } in
      at_fault n 0 kind place faults (omega arith) (sim.faults n j kind place s t faults last inside clock)
  turns c n j s t steps going last at inside clock (Stuck memory bank place) is =
      absurd (sim.never_stuck (suc n) (subst (λ (o : Outcome). IsStuck o) (sym is) tt))

  -- over any clock
  moves : (c : ℕ) (s t : State) → Stand r Inside Over c s → Clocks net s t → Stand r Inside Over (suc c) t
  moves c s t (in_step n j steps going early at inside) clock =
      elim (cases_lt (suc j) (r.length n)) [
        | inl more ↦ in_step n (suc j) steps going more (omega arith) (sim.waits n j s t steps going more inside clock)
        | inr last ↦ turns c n j s t steps going (omega arith) at inside clock (r.outcome (suc n)) refl
      ]
  moves c s t (at_end n j ends at over) clock = at_end n (suc j) ends (omega arith) (sim.stays n j s t over clock)
  moves c s t (at_fault n j kind place faults at over) clock =
      at_fault n (suc j) kind place faults (omega arith) (sim.stays n j s t over clock)

  stands : (c : ℕ) (s : State) → ClocksTo net c (start_of net start) s → Stand r Inside Over c s
  stands zero s run = subst (λ (x : State). Stand r Inside Over 0 x) run (starts_at (r.outcome 0) refl)
  stands (suc c) s run = moves c run.0 s (stands c run.0 run.1.0) run.1.1

  -- the steps that fit, by where the state stands
  fit_of : (c : ℕ) (s : State) → Stand r Inside Over c s → (n : ℕ) × Fit r c n
  fit_of c s (in_step n j steps going early at inside) = (n, fit_in_step r c n j steps early at)
  fit_of c s (at_end n j ends at over) = (n, fit_at_end r c n ends (omega arith))
  fit_of c s (at_fault n j kind place faults at over) = (n, fit_at_fault r c n kind place faults (omega arith))

  -- what the net shows, by where the state stands
  shown_in_step : (c n j : ℕ) (s : State) (wires : List ℕ) → HasSteps r n → IsGoing (r.outcome n) → j < r.length n → c ≡ clocks_of r n + j
      → Fit r c n → ShowsStep net r n j s wires → ShowsRun net r c n s wires
  shown_in_step c n j s wires steps going early at fit shows =
      record {
        no_clash = shows.no_clash;
        no_stray = shows.no_stray;
        memories = shows.memories;
        tick = first_clock r _ c n j sim.takes_clocks steps at shows.tick;
        done = (λ done. absurd (shows.not_done done), λ ended. absurd (not_ended_within r c n ended.0 fit going ended.1.0 ended.1.1));
        fault = (λ fault. absurd (fault shows.no_fault), λ faulted. absurd (not_faulted_within r c n j fit early at faulted));
        names = λ m kind place faults within. absurd (not_faulted_within r c n j fit early at (record { after = m; kind = kind; place = place; faults = faults; within = within }));
      }

  shown_at_end : (c n j : ℕ) (s : State) (wires : List ℕ) → EndsAfter r n → c ≡ clocks_of r n + j
      → ShowsEnded net r n j s wires → ShowsRun net r c n s wires
  shown_at_end c n j s wires ends at shows =
      record {
        no_clash = shows.no_clash;
        no_stray = shows.no_stray;
        memories = shows.memories;
        tick = first_clock r _ c n j sim.takes_clocks ends.steps at shows.tick;
        done = (λ done. (n, (ends, omega arith)), λ ended. shows.done);
        fault = (λ fault. absurd (fault shows.no_fault), λ faulted. absurd (no_fault_at_end r n faulted.after faulted.kind faulted.place ends faulted.faults));
        names = λ m kind place faults within. absurd (no_fault_at_end r n m kind place ends faults);
      }

  same_fault : (n m : ℕ) (kind kind' : FaultKind) (place place' : Place) (wires : List ℕ) → FaultsAfter r n kind place → FaultsAfter r m kind' place'
      → fault_shown net wires ≡ Some (kind, place) → fault_shown net wires ≡ Some (kind', place')
  same_fault n m kind kind' place place' wires p q names =
      let same = one_fault r n m kind kind' place place' p q in
      let here = p.faulted in
      let there = q.faulted in
      let e : r.outcome (suc n) ≡ r.outcome (suc m) = ap (λ k. r.outcome (suc k)) same in
      cc

  shown_at_fault : (c n j : ℕ) (kind : FaultKind) (place : Place) (s : State) (wires : List ℕ) → FaultsAfter r n kind place → c ≡ (clocks_of r n + r.length n) + j
      → ShowsFaulted net r n kind place s wires → ShowsRun net r c n s wires
  shown_at_fault c n j kind place s wires faults at shows =
      let takes = sim.takes_clocks n faults.steps faults.going in
      record {
        no_clash = shows.no_clash;
        no_stray = shows.no_stray;
        memories = shows.memories;
        tick = (λ tick. absurd (shows.no_tick tick), λ first. let at_first = first.1 in absurd (omega arith));
        done = (λ done. absurd (shows.not_done done), λ ended. absurd (no_fault_at_end r ended.0 n kind place ended.1.0 faults));
        fault = (λ fault. record { after = n; kind = kind; place = place; faults = faults; within = omega arith }, λ faulted. names_some net kind place wires shows.names);
        names = λ m kind' place' others within. same_fault n m kind kind' place place' wires faults others shows.names;
      }

  shown : (c : ℕ) (s : State) (wires : List ℕ) (stand : Stand r Inside Over c s) → Settles net s wires → ShowsRun net r c (fit_of c s stand).0 s wires
  unfolding fit_of
  shown c s wires (in_step n j steps going early at inside) settled =
      shown_in_step c n j s wires steps going early at (fit_in_step r c n j steps early at) (sim.shows n j s wires steps going early inside settled)
  shown c s wires (at_end n j ends at over) settled = shown_at_end c n j s wires ends at (sim.shows_ended n j s wires ends over settled)
  shown c s wires (at_fault n j kind place faults at over) settled =
      shown_at_fault c n j kind place s wires faults at (sim.shows_faulted n j kind place s wires faults over settled)

  fits : (c : ℕ) → (n : ℕ) × Fit r c n
  fits c =
      let run = reached c in
      fit_of c run.0 (stands c run.0 run.1)

  shows : (c n : ℕ) (s : State) (wires : List ℕ) → ClocksTo net c (start_of net start) s → Settles net s wires → Fit r c n → ShowsRun net r c n s wires
  shows c n s wires run settled fit =
      let stand = stands c s run in
      let found = fit_of c s stand in
      subst (λ (k : ℕ). ShowsRun net r c k s wires) (one_fit r c found.0 n found.1 fit) (shown c s wires stand settled)

  runs : (c : ℕ) → (s : State) × ((wires : List ℕ) × (ClocksTo net c (start_of net start) s × Settles net s wires))
  runs c =
      let run = reached c in
      let settled = sim.settles run.0 in
      (run.0, (settled.0, (run.1, settled.1)))

-- a net for which the local facts hold plays the run
pub plays_by : {net : Net} {r : Run} {start : List (List ℕ)} {Inside Over : ℕ → ℕ → State → Type 0} → Simulates net r start Inside Over → Plays net r start
plays_by {net} {r} {start} {Inside} {Over} sim =
    record {
      takes_clocks = sim.takes_clocks;
      never_stuck = sim.never_stuck;
      fits = fits net r start Inside Over sim;
      shows = shows net r start Inside Over sim;
      runs = runs net r start Inside Over sim;
    }
