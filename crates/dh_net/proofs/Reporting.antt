-- What a net that plays a run comes to under a limit is what the run comes to.
-- By induction on the clocks, the ticks counted up to a clock are the steps that fit: with one clock more, one
-- step more fits at most, since each takes a clock, and it does where the clock ends a step, which is where the
-- net shows a tick. Where the net shows the end, or a fault, the run has ended, or faulted, within those clocks;
-- and no earlier, since from then on the net would have shown it, in the states that there are at each clock.
use Rattle.std.proofs.Common.{◌≡◌, ◌↔◌, ℕ, ◌+◌, ◌<◌, ◌≤◌, ◌==◌, zero, suc, ◌⊎◌, inl, inr, if◌then◌else◌, List, Option, Some, None, ap, sym, subst, ◌∙◌, arith}
use Rattle.std.proofs.lemmas.Bool.{cases_lt, cases_order}
use Rattle.std.proofs.lemmas.Bool.Decides.{nat_tests}
use Rattle.dh_base.specs.declared.outcomes.FaultKind.{FaultKind}
use Rattle.dh_base.specs.declared.outcomes.Outcome.{Outcome}
use Rattle.dh_base.specs.declared.outcomes.Outcome.TheVariants.{Going, Ended, Faulted, Stuck}
use Rattle.dh_base.specs.declared.places.Place.{Place}
use Rattle.dh_net.specs.declared.nets.Net.{Net}
use Rattle.dh_net.specs.Clock.{State, Settles, ClocksTo, start_of}
use Rattle.dh_net.specs.Ends.{fault_shown, IsFault, ShowsEnd, TicksTo, StopsAs, IsRunOf}
use Rattle.dh_net.specs.Plays.{TakesClocks, Run, clocks_of, HasSteps, EndsAfter, FaultsAfter, Fit, ShowsRun, Plays}
use Rattle.dh_net.specs.Reports.{ReportsEnd, ReportsFault, ReportsGoing, ReportsAs, Reports}
use Rattle.dh_net.proofs.Simulation.{names_some}
use Rattle.dh_net.proofs.Fits.{steps_to_end, steps_to_fault, steps_fewer, last_going, clocks_pass}

-- a run that counts ticks is a run
run_of_ticks : (net : Net) (c : ℕ) (s t : State) (ticks : ℕ) → TicksTo net c s t ticks → ClocksTo net c s t
run_of_ticks net zero s t ticks run = run.0
run_of_ticks net (suc c) s t ticks run = (run.0, (run_of_ticks net c s run.0 run.1.0 run.1.1.1.0, run.1.1.1.1.0))

-- what one clock adds to the count
counted : (k before t : ℕ) → k ≡ before + (if t == 1 then 1 else 0) → t ≡ 1 → k ≡ before + 1
counted k before t count is = grind (arith, nat_tests)

not_counted : (k before t : ℕ) → k ≡ before + (if t == 1 then 1 else 0) → (t ≡ 1 → ⊥) → k ≡ before
not_counted k before t count not = grind (arith, nat_tests)

decided : (t : ℕ) → (t ≡ 1) ⊎ (t ≡ 1 → ⊥)
decided t =
    elim (cases_order t 1) [
      | inl is ↦ inl is
      | inr not ↦ inr (λ is. elim not [ inl less ↦ omega arith | inr more ↦ omega arith ])
    ]

-- a fault as an outcome
as_outcome : Option (FaultKind × Place) → Outcome
as_outcome None = Going
as_outcome (Some fault) = Faulted fault.0 fault.1

-- the steps that fit, and one clock more
none_fit : (r : Run) → TakesClocks r → (m : ℕ) → HasSteps r m → clocks_of r m ≤ 0 → m ≤ 0
none_fit r takes zero steps within = omega arith
none_fit r takes (suc m) steps within =
    let pass = clocks_pass r (suc m) takes steps (omega arith) in
    absurd (omega arith)

at_most_one_more : (r : Run) (c before n : ℕ) → TakesClocks r → Fit r c before → Fit r (suc c) n → n ≤ before + 1
at_most_one_more r c before zero takes fit next = omega arith
at_most_one_more r c before (suc m) takes fit next =
    let steps = steps_fewer r m next.steps in
    let takes_one = takes m steps (last_going r m next.steps) in
    let within = next.within in
    let small = fit.greatest m steps (omega arith) in
    omega arith

next_fit : (r : Run) (c before n k t : ℕ) → TakesClocks r → Fit r c before → Fit r (suc c) n
    → (t ≡ 1) ↔ ((0 < suc c) × (suc c ≡ clocks_of r n)) → k ≡ before + (if t == 1 then 1 else 0) → n ≡ k
next_fit r c before n k t takes fit next tick count =
    let most = at_most_one_more r c before n takes fit next in
    let within = fit.within in
    let least = next.greatest before fit.steps (omega arith) in
    elim (decided t) [
      | inl is ↦
          let more = counted k before t count is in
          let at = (tick.0 is).1 in
          elim (cases_lt before n) [
            | inl one ↦ omega arith
            | inr same ↦
                let e : n ≡ before = omega arith in
                let clocks : clocks_of r n ≡ clocks_of r before = ap (clocks_of r) e in
                absurd (omega arith)
          ]
      | inr not ↦
          let same = not_counted k before t count not in
          let fits = next.within in
          elim (cases_lt c (clocks_of r n)) [
            | inl at ↦ absurd (not (tick.1 (omega arith, omega arith)))
            | inr early ↦
                let no_more = fit.greatest n next.steps early in
                omega arith
          ]
    ]

module _ (net : Net) (r : Run) (start : List (List ℕ)) (takes : TakesClocks r) (plays : Plays net r start) where
  -- the ticks counted are the steps that fit
  ticks_fit : (c : ℕ) (s : State) (ticks : ℕ) → TicksTo net c (start_of net start) s ticks → Fit r c ticks
  ticks_fit zero s ticks run =
      let fit : Fit r 0 0 = record { steps = λ k below. absurd (omega arith); within = omega arith; greatest = none_fit r takes } in
      subst (λ (k : ℕ). Fit r 0 k) (sym run.1) fit
  ticks_fit (suc c) s ticks run =
      let before = ticks_fit c run.0 run.1.0 run.1.1.1.0 in
      let found = plays.fits (suc c) in
      let shows = plays.shows (suc c) found.0 s run.1.1.0 (run_of_ticks net (suc c) (start_of net start) s ticks run) run.1.1.1.1.1.0 found.1 in
      subst (λ (k : ℕ). Fit r (suc c) k) (next_fit r c run.1.0 found.0 ticks _ takes before found.1 shows.tick run.1.1.1.1.1.1) found.1

  -- from the end of the run on, the net shows it
  shows_end : (c m : ℕ) (s : State) (wires : List ℕ) → ClocksTo net c (start_of net start) s → Settles net s wires
      → EndsAfter r m → clocks_of r m ≤ c → ShowsEnd net wires
  shows_end c m s wires run settled ends within =
      let found = plays.fits c in
      inr ((plays.shows c found.0 s wires run settled found.1).done.1 (m, (ends, within)))

  shows_fault : (c m : ℕ) (kind : FaultKind) (place : Place) (s : State) (wires : List ℕ) → ClocksTo net c (start_of net start) s → Settles net s wires
      → FaultsAfter r m kind place → clocks_of r m + r.length m ≤ c → ShowsEnd net wires
  shows_fault c m kind place s wires run settled faults within =
      let found = plays.fits c in
      let names = (plays.shows c found.0 s wires run settled found.1).names m kind place faults within in
      inl (subst (λ (f : Option (FaultKind × Place)). IsFault f) (sym names) tt)

  module _ (limit steps clocks : ℕ) (outcome : Outcome) (memories : List (List ℕ)) (run : IsRunOf net start limit outcome steps clocks memories) where
    reaches : ClocksTo net clocks (start_of net start) run.last
    reaches = run_of_ticks net clocks (start_of net start) run.last steps run.reached

    fit : Fit r clocks steps
    fit = ticks_fit clocks run.last steps run.reached

    shown : ShowsRun net r clocks steps run.last run.wires
    shown = plays.shows clocks steps run.last run.wires reaches run.settled fit

    -- the run was not over at an earlier clock
    not_ended_before : (c m : ℕ) → c < clocks → EndsAfter r m → clocks_of r m ≤ c → ⊥
    not_ended_before c m early ends within =
        let at = plays.runs c in
        run.least c at.0 at.1.0 early at.1.1.0 at.1.1.1 (shows_end c m at.0 at.1.0 at.1.1.0 at.1.1.1 ends within)

    not_faulted_before : (c m : ℕ) (kind : FaultKind) (place : Place) → c < clocks → FaultsAfter r m kind place → clocks_of r m + r.length m ≤ c → ⊥
    not_faulted_before c m kind place early faults within =
        let at = plays.runs c in
        run.least c at.0 at.1.0 early at.1.1.0 at.1.1.1 (shows_fault c m kind place at.0 at.1.0 at.1.1.0 at.1.1.1 faults within)

    going : clocks ≡ limit → (ShowsEnd net run.wires → ⊥) → ReportsGoing r limit steps clocks
    going whole not =
        let within : clocks_of r steps ≤ clocks = fit.within in
        record {
          fits = subst (λ (c : ℕ). Fit r c steps) whole fit;
          whole = whole;
          not_ended = λ m ends by. not (shows_end clocks m run.last run.wires reaches run.settled ends (omega arith));
          not_faulted = λ faults. let by = faults.within in
              not (shows_fault clocks faults.after faults.kind faults.place run.last run.wires reaches run.settled faults.faults (omega arith));
        }

    ended_at : (m : ℕ) → EndsAfter r m → clocks_of r m ≤ clocks → ReportsEnd r limit steps clocks
    ended_at m ends within =
        let x = fit.greatest m ends.steps within in
        let y = steps_to_end r steps m fit.steps ends in
        let same : m ≡ steps = omega arith in
        let least : clocks ≤ clocks_of r m =
        elim (cases_lt (clocks_of r m) clocks) [
          | inl early ↦ absurd (not_ended_before (clocks_of r m) m early ends (omega arith))
          | inr no_later ↦ no_later
        ] in
        let e : clocks_of r m ≡ clocks_of r steps = ap (clocks_of r) same in
        record { ends = subst (λ (k : ℕ). EndsAfter r k) same ends; at_end = omega arith; within = run.within }

    faulted_at : (m : ℕ) (kind : FaultKind) (place : Place) → FaultsAfter r m kind place → clocks_of r m + r.length m ≤ clocks
        → ReportsFault r limit kind place steps clocks
    faulted_at m kind place faults within =
        let x = fit.greatest m faults.steps (omega arith) in
        let y = steps_to_fault r steps m kind place fit.steps faults in
        let same : m ≡ steps = omega arith in
        let least : clocks ≤ clocks_of r m + r.length m =
        elim (cases_lt (clocks_of r m + r.length m) clocks) [
          | inl early ↦ absurd (not_faulted_before (clocks_of r m + r.length m) m kind place early faults (omega arith))
          | inr no_later ↦ no_later
        ] in
        let e : clocks_of r (suc m) ≡ clocks_of r (suc steps) = ap (λ k. clocks_of r (suc k)) same in
        record { faults = subst (λ (k : ℕ). FaultsAfter r k kind place) same faults; at_fault = omega arith; within = run.within }

    faulted : (kind : FaultKind) (place : Place) → fault_shown net run.wires ≡ Some (kind, place) → ReportsFault r limit kind place steps clocks
    unfolding as_outcome
    faulted kind place names =
        let met = shown.fault.0 (names_some net kind place run.wires names) in
        let same : Faulted met.kind met.place ≡ Faulted kind place = ap as_outcome (sym (shown.names met.after met.kind met.place met.faults met.within) ∙ names) in
        faulted_at met.after kind place (record { steps = met.faults.steps; going = met.faults.going; faulted = met.faults.faulted ∙ same }) met.within

    stands : (o : Outcome) → StopsAs net run.wires clocks limit o → ReportsAs r limit o steps clocks
    stands Going stops = going stops.0 stops.1
    stands Ended stops = let over = shown.done.0 stops.1 in ended_at over.0 over.1.0 over.1.1
    stands (Faulted kind place) stops = faulted kind place stops
    stands (Stuck memory bank place) stops = stops

-- what a net that plays a run comes to under a limit is what the run comes to
pub reports_by : {net : Net} {r : Run} {start : List (List ℕ)} {limit : ℕ} {outcome : Outcome} {steps clocks : ℕ} {memories : List (List ℕ)}
    → Plays net r start → IsRunOf net start limit outcome steps clocks memories → Reports r limit outcome steps clocks memories
reports_by {net} {r} {start} {limit} {outcome} {steps} {clocks} {memories} plays run =
    record {
      stands = stands net r start plays.takes_clocks plays limit steps clocks outcome memories run outcome run.stops;
      contents = run.contents ∙ (shown net r start plays.takes_clocks plays limit steps clocks outcome memories run).memories;
    }
