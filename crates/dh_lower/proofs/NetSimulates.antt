-- A net that is made of a plan simulates its run, and so plays it; and its writes come last.
-- Inside a step it stands as `InStep` says; once the run is over its registers rest, with the tick of the last step if
-- that was the clock before, and with the fault. Each fact is of one clock.
use Rattle.std.proofs.Common.{◌≡◌, ◌↔◌, ℕ, zero, suc, ◌+◌, ◌-◌, ◌<◌, ◌^◌, inl, inr, Some, None, Bool, true, false, if◌then◌else◌, List, length, map, replicate, refl, sym, ap, subst, ◌∙◌, arith}
use Rattle.std.specs.Prelude.{Option, is_none, slice_get, slice_index, ◌==◌}
use Rattle.std.proofs.lemmas.Bool.{cases_lt, eqb-true}
use Rattle.std.proofs.lemmas.Bool.Decides.{nat_tests}
use Rattle.std.proofs.lemmas.List.{length-replicate}
use Rattle.std.proofs.lemmas.Nat.{pow_pos}
use Rattle.dh_base.specs.declared.outcomes.FaultKind.{FaultKind}
use Rattle.dh_base.specs.declared.outcomes.Outcome.{Outcome}
use Rattle.dh_base.specs.declared.outcomes.Outcome.TheVariants.{Going, Ended, Faulted, Stuck}
use Rattle.dh_base.specs.declared.places.Place as source
use Rattle.dh_tree.specs.Tables.{Fits}
use Rattle.dh_net.specs.BankPorts.{ports_of}
use Rattle.dh_net.specs.Clock.{State, Settles, Clocks, ClocksTo, start_of, is_active, held_after, memories_after}
use Rattle.dh_net.specs.Ends.{entry_at}
use Rattle.dh_net.specs.Laws.{FitsNet}
use Rattle.dh_net.specs.Plays.{Run, clocks_of, IsGoing, IsStuck, IsFine, HasSteps, EndsAfter, FaultsAfter, Fit}
use Rattle.dh_net.specs.Simulates.{Simulates, ShowsStep, ShowsEnded, ShowsFaulted}
use Rattle.dh_net.specs.declared.nets.Driver.{Driver}
use Rattle.dh_net.specs.declared.nets.Net.{Net}
use Rattle.dh_net.specs.declared.nets.Register.{Register}
use Rattle.dh_net.proofs.Fits.{going_not_ended, steps_more, one_fit, fit_in_step}
use Rattle.dh_net.proofs.Simulation.{Stand, in_step, at_end, at_fault, plays_by}
use Rattle.dh_net.proofs.Valuations.{some_valuation}
use Rattle.dh_plan.specs.declared.schedules.Limits.{Limits}
use Rattle.dh_plan.specs.Blocks.{BlockEvent, RegisterSet, first_fault}
use Rattle.dh_plan.specs.PlanRuns.{ended, PlanNext, first_registers, PlanState, step_events, step_sets, blocks_at, plan_state_after}
use Rattle.dh_plan.specs.PlayedPlans.{longest, WritesLast, PlaysPlan}
use Rattle.dh_plan.specs.Ways.{GraphSpot, rests, resolve}
use Rattle.dh_lower.specs.MadeNets.{IsMakeable}
use Rattle.dh_lower.specs.NetOfPlan.{Making, RegisterMeaning, spot_length, fault_seen, ShowsOver, IsNetOf}
use Rattle.dh_lower.proofs.AsksMeant.{both}
use Rattle.dh_lower.proofs.FitsKept.{fits_kept, at_map}
use Rattle.dh_lower.proofs.NetInStep.{state_of, run_of, place_in, begun, InStep, state_fits, step_takes, length_is, shows_clock, never_clashes, never_strays, waits_on, fault_is, step_is, StepMade, step_made, faulted_holds, faulted_memories, faulted_fit, writing_last}
use Rattle.dh_lower.proofs.PlanSteps.{fine_at, ended_at, runs_never_stuck, going_has_none, ended_has_none, faulted_has, step_fault_named}
use Rattle.dh_lower.proofs.SilentPorts.{silent_clashes, silent_strays, silent_memories}
use Rattle.dh_lower.proofs.StepsDoBlocks.{rests_where_ended}

-- before the first clock a state fits
zero_held : (n q : ℕ) → slice_index (replicate n 0) q ≡ 0
zero_held zero q = refl
zero_held (suc n) zero = refl
zero_held (suc n) (suc q) = zero_held n q

start_fits : (net : Net) (Holds : RegisterMeaning) (k : Making) → IsNetOf k net Holds → (start : List (List ℕ)) → FitsNet net (start_of net start)
start_fits net Holds k made start =
    record {
      registers = λ i r at. subst (λ (n : ℕ). n < 2 ^ r.width) (sym (at_map (λ (r : Register). r.initial) net.registers i r at)) (made.valid.registers i r at).initial;
      held = λ q p at. subst (λ (n : ℕ). n < 2 ^ p.width) (sym (zero_held (length net.drivers) q)) (pow_pos p.width);
    }

-- the tick is 1 at the first clock behind a step
abbrev pub TicksAt : (tick n j : ℕ) → Type 0
TicksAt tick n j = (tick ≡ 1) ↔ ((0 < n) × (j ≡ 0))

no_tick : (n j : ℕ) → TicksAt 0 n (suc j)
no_tick n j = (λ e. absurd (cc), λ x. absurd (let none = x.1 in cc))

first_no_tick : TicksAt 0 0 0
first_no_tick = (λ e. absurd (cc), λ x. absurd (let none = x.0 in omega (arith, none)))

a_tick : (n : ℕ) → TicksAt 1 (suc n) 0
a_tick n = (λ e. (omega arith, refl), λ x. refl)

tick_shown : (tick w n j : ℕ) → w ≡ tick → TicksAt tick n j → TicksAt w n j
tick_shown tick w n j same iff = (λ e. iff.0 (sym same ∙ e), λ x. same ∙ iff.1 x)

not_one : (w : ℕ) → w ≡ 0 → w ≡ 1 → ⊥
not_one w a b = omega (arith, a, b)

-- a net with a fault is not done
not_done_at : (fault number w : ℕ) → fault ≡ suc number → w ≡ (if fault == 0 then 1 else 0) → w ≡ 0
not_done_at fault number w is e = (let some : (fault == 0) ≡ false = grind (arith, is, nat_tests) in e ∙ ap (λ (b : Bool). if b then 1 else 0) some)

module _ (k : Making) (limits : Limits) (net : Net) (Holds : RegisterMeaning) (can : IsMakeable k limits) (made : IsNetOf k net Holds) (start : List (List ℕ)) (fits : Fits k.plan.table start) where
  abbrev stands_after : ℕ → PlanState
  stands_after n = state_of k limits net Holds can made start fits n

  abbrev own_run : Run
  own_run = run_of k limits net Holds can made start fits

  abbrev Inside : ℕ → ℕ → State → Type 0
  Inside n j s = InStep k limits net Holds can made start fits n j s

  -- how the run came to be over
  pub data HowOver (n j tick fault : ℕ) : Type 0 where
    by_end : (stands_after n).outcome ≡ Ended → fault ≡ 0 → TicksAt tick n j → HowOver n j tick fault
    by_fault : (number : ℕ) (kind : FaultKind) (place : source.Place) → IsGoing (stands_after n).outcome → (stands_after (suc n)).outcome ≡ Faulted kind place
        → slice_get k.plan.faults number ≡ Some (kind, place) → fault ≡ suc number → tick ≡ 0 → HowOver n j tick fault

  pub record Over (n j : ℕ) (s : State) : Type 0 where
    pub clock : ℕ
    pub tick : ℕ
    pub fault : ℕ
    pub registers : List ℕ
    pub holds : Holds rests clock tick fault registers s.registers
    pub memories : s.memories ≡ (stands_after n).memories
    pub fit : FitsNet net s
    pub how : HowOver n j tick fault

  -- Before the first clock.

  first_next : (place_in k limits net Holds can made start fits (resolve k.plan.registers k.flow.first (first_registers k.plan)).spot ≡ (stands_after 0).place)
      × ((resolve k.plan.registers k.flow.first (first_registers k.plan)).registers ≡ (stands_after 0).registers)
  first_next = (ap (λ (x : PlanNext). x.place) (can.flows.first (first_registers k.plan)), ap (λ (x : PlanNext). x.registers) (can.flows.first (first_registers k.plan)))

  starts_inside : Inside 0 0 (start_of net start)
  starts_inside =
      record {
        spot = (resolve k.plan.registers k.flow.first (first_registers k.plan)).spot;
        tick = 0;
        holds = subst (λ (rs : List ℕ). Holds (resolve k.plan.registers k.flow.first (first_registers k.plan)).spot 0 0 0 rs (map (λ r. r.initial) net.registers)) first_next.1 made.starts;
        place = first_next.0;
        ticked = first_no_tick;
        memories = refl;
        fit = start_fits net Holds k made start;
        long = length-replicate (length net.drivers) 0;
        reads = λ block one. record { each = λ i guard r at on before. absurd (omega (arith, before)) };
      }

  starts_over : (stands_after 0).outcome ≡ Ended → Over 0 0 (start_of net start)
  starts_over e =
      let l = resolve k.plan.registers k.flow.first (first_registers k.plan) in
      let resting : l.spot ≡ rests = rests_where_ended k.flow.states can.flows.behind can.flows.after l.spot (first_next.0 ∙ ended_at (stands_after 0).place e) in
      record {
        clock = 0;
        tick = 0;
        fault = 0;
        registers = l.registers;
        holds = subst (λ (x : GraphSpot). Holds x 0 0 0 l.registers (map (λ r. r.initial) net.registers)) resting made.starts;
        memories = refl;
        fit = start_fits net Holds k made start;
        how = by_end e refl first_no_tick;
      }

  -- Over a clock.

  waits_of : (n j : ℕ) (s t : State) → IsGoing (stands_after n).outcome → suc j < own_run.length n → Inside n j s → Clocks net s t → Inside n (suc j) t
  waits_of n j s t going more h c =
      waits_on k limits net Holds can made start fits n j s c.wires going (omega (arith, more)) h c.settled t c.registers c.held c.memories more

  module _ (n j : ℕ) (s t : State) (going : IsGoing (stands_after n).outcome) (last : suc j ≡ own_run.length n) (h : Inside n j s) (c : Clocks net s t) where
    early : j < longest k.timing.lengths (blocks_at (stands_after n).place)
    early = omega (arith, last)

    abbrev events_of : List BlockEvent
    events_of = step_events k.plan (begun k limits net Holds can made start fits n) (blocks_at (stands_after n).place)

    abbrev sets_of : List RegisterSet
    sets_of = step_sets k.plan (begun k limits net Holds can made start fits n) (blocks_at (stands_after n).place)

    abbrev fault_of : Option ℕ
    fault_of = first_fault events_of

    next_state : stands_after (suc n) ≡ plan_state_after k.plan (stands_after n) events_of sets_of fault_of
    next_state = step_is k limits net Holds can made start fits n j s c.wires going early h c.settled t c.registers c.held c.memories last

    made_now : fault_of ≡ None → StepMade k limits net Holds can made start fits n j s c.wires going early h c.settled t c.registers c.held c.memories last
    made_now none = step_made k limits net Holds can made start fits n j s c.wires going early h c.settled t c.registers c.held c.memories last none

    goes_on_of : IsGoing (stands_after (suc n)).outcome → Inside (suc n) 0 t
    goes_on_of goes =
        let none = going_has_none k.plan (stands_after n) events_of sets_of fault_of (subst (λ (o : Outcome). IsGoing o) (ap (λ (x : PlanState). x.outcome) next_state) goes) in
        let m = made_now none in
        record {
          spot = m.led.spot;
          tick = 1;
          holds = m.holds;
          place = m.place;
          ticked = a_tick n;
          memories = m.contents;
          fit = m.fit;
          long = m.long;
          reads = λ block one. record { each = λ i guard r at on before. absurd (omega (arith, before)) };
        }

    end_place : fault_of ≡ None → (stands_after (suc n)).outcome ≡ Ended → (stands_after (suc n)).place ≡ ended
    end_place none e =
        let is = next_state ∙ ap (λ (f : Option ℕ). plan_state_after k.plan (stands_after n) events_of sets_of f) none in
        ap (λ (x : PlanState). x.place) is ∙ ended_at _ (sym (ap (λ (x : PlanState). x.outcome) is) ∙ e)

    ends_of : (stands_after (suc n)).outcome ≡ Ended → Over (suc n) 0 t
    ends_of e =
        let has_name = step_fault_named k.plan can.sound.formed.blocks (begun k limits net Holds can made start fits n) (blocks_at (stands_after n).place) in
        let none = ended_has_none k.plan (stands_after n) events_of sets_of fault_of has_name (sym (ap (λ (x : PlanState). x.outcome) next_state) ∙ e) in
        let m = made_now none in
        let place_ended : (stands_after (suc n)).place ≡ ended = end_place none e in
        let resting : m.led.spot ≡ rests = rests_where_ended k.flow.states can.flows.behind can.flows.after m.led.spot (m.place ∙ place_ended) in
        record {
          clock = 0;
          tick = 1;
          fault = 0;
          registers = (stands_after (suc n)).registers;
          holds = subst (λ (x : GraphSpot). Holds x 0 1 0 (stands_after (suc n)).registers t.registers) resting m.holds;
          memories = m.contents;
          fit = m.fit;
          how = by_end e refl (a_tick n);
        }

    faults_of : (kind : FaultKind) (place : source.Place) → (stands_after (suc n)).outcome ≡ Faulted kind place → Over n 0 t
    faults_of kind place e =
        let f = faulted_has k.plan (stands_after n) events_of sets_of fault_of kind place (sym (ap (λ (x : PlanState). x.outcome) next_state) ∙ e) in
        record {
          clock = 0;
          tick = 0;
          fault = suc f.number;
          registers = (stands_after n).registers;
          holds = faulted_holds k limits net Holds can made start fits n j s c.wires going early h c.settled t c.registers c.held c.memories last f.number f.is;
          memories = faulted_memories k limits net Holds can made start fits n j s c.wires going early h c.settled t c.registers c.held c.memories last f.number f.is;
          fit = faulted_fit k limits net Holds can made start fits n j s c.wires going early h c.settled t c.registers c.held c.memories last;
          how = by_fault f.number kind place going e f.names refl refl;
        }

  -- Once it is over.

  over_shown : (n j : ℕ) (s : State) (wires : List ℕ) → (h : Over n j s) → Settles net s wires → ShowsOver k net Holds h.tick h.fault h.registers wires
  over_shown n j s wires h settled = made.over h.clock h.tick h.fault h.registers s wires h.holds h.fit settled

  later : (n j tick fault : ℕ) → HowOver n j tick fault → HowOver n (suc j) 0 fault
  later n j tick fault (by_end e none ticked) = by_end e none (no_tick n j)
  later n j tick fault (by_fault number kind place going e names is none) = by_fault number kind place going e names is refl

  stays_of : (n j : ℕ) (s t : State) → Over n j s → Clocks net s t → Over n (suc j) t
  stays_of n j s t h c =
      let sh = over_shown n j s c.wires h c.settled in
      record {
        clock = 0;
        tick = 0;
        fault = h.fault;
        registers = h.registers;
        holds = subst (λ (rs : List ℕ). Holds rests 0 0 h.fault h.registers rs) (sym c.registers) sh.stays;
        memories = c.memories ∙ (silent_memories net.table c.wires net.drivers (ports_of net.table) sh.silent s.memories ∙ h.memories);
        fit = fits_kept net made.valid s t h.fit (state_fits k limits net Holds can made start fits n s h.memories) c;
        how = later n j h.tick h.fault h.how;
      }

  -- What is shown.

  shows_of : (n j : ℕ) (s : State) (wires : List ℕ) → IsGoing (stands_after n).outcome → j < own_run.length n → Inside n j s → Settles net s wires → ShowsStep net own_run n j s wires
  shows_of n j s wires going early h settled =
      let sh = shows_clock k limits net Holds can made start fits n j s wires going early h settled in
      record {
        no_clash = never_clashes k limits net Holds can made start fits n j s wires going early h settled;
        no_stray = never_strays k limits net Holds can made start fits n j s wires going early h settled;
        memories = h.memories;
        tick = tick_shown h.tick (slice_index wires net.tick) n j sh.ticks h.ticked;
        not_done = λ e. not_one (slice_index wires net.done) sh.not_done e;
        no_fault = sh.no_fault;
      }

  ended_shown : (n j : ℕ) (s : State) (wires : List ℕ) → (stands_after n).outcome ≡ Ended → (h : Over n j s) → Settles net s wires → HowOver n j h.tick h.fault → ShowsEnded net own_run n j s wires
  ended_shown n j s wires e h settled (by_end again none ticked) =
      let sh = over_shown n j s wires h settled in
      record {
        no_clash = silent_clashes net.table wires net.drivers (ports_of net.table) sh.silent;
        no_stray = silent_strays net.table wires net.drivers (ports_of net.table) sh.silent;
        memories = h.memories;
        tick = tick_shown h.tick (slice_index wires net.tick) n j sh.ticks ticked;
        done = sh.done ∙ ap (λ (f : ℕ). if f == 0 then 1 else 0) none;
        no_fault = sh.fault_is ∙ none;
      }
  ended_shown n j s wires e h settled (by_fault number kind place going f names is none) = absurd (going_not_ended _ going e)

  abbrev named : FaultKind → source.Place → Option (FaultKind × source.Place)
  named kind place = Some (kind, place)

  same_names : (kind kind' : FaultKind) (place place' : source.Place) (x : Outcome) → x ≡ Faulted kind place → x ≡ Faulted kind' place' → named kind place ≡ named kind' place'
  same_names kind kind' place place' x a b =
      let both_are : Faulted kind place ≡ Faulted kind' place' = sym a ∙ b in
      let c : kind ≡ kind' = cc in
      let d : place ≡ place' = cc in
      λ i. named (c i) (d i)

  faulted_shown : (n j : ℕ) (kind : FaultKind) (place : source.Place) (s : State) (wires : List ℕ) → IsGoing (stands_after n).outcome → (stands_after (suc n)).outcome ≡ Faulted kind place → (h : Over n j s)
      → Settles net s wires → HowOver n j h.tick h.fault → ShowsFaulted net own_run n kind place s wires
  faulted_shown n j kind place s wires going e h settled (by_end again none ticked) = absurd (going_not_ended _ going again)
  faulted_shown n j kind place s wires going e h settled (by_fault number kind' place' going' f names is none) =
      let sh = over_shown n j s wires h settled in
      let shown : slice_index wires net.fault ≡ suc number = sh.fault_is ∙ is in
      record {
        no_clash = silent_clashes net.table wires net.drivers (ports_of net.table) sh.silent;
        no_stray = silent_strays net.table wires net.drivers (ports_of net.table) sh.silent;
        memories = h.memories;
        no_tick = λ t. not_one (slice_index wires net.tick) (sh.ticks ∙ none) t;
        not_done = λ d. not_one (slice_index wires net.done) (not_done_at h.fault number (slice_index wires net.done) is sh.done) d;
        names =
            ap (λ (x : ℕ). entry_at net.faults x) shown ∙ (ap (λ (l : List (FaultKind × source.Place)). entry_at l (suc number)) made.fault_names
            ∙ (entry_of k.plan.faults number ∙ (names ∙ same_names kind' kind place' place (stands_after (suc n)).outcome f e)));
      }
    where
      entry_of : (l : List (FaultKind × source.Place)) (number : ℕ) → entry_at l (suc number) ≡ slice_get l number
      entry_of l number =
          let more : (suc number == 0) ≡ false = grind (arith, nat_tests) in
          let place : suc number - 1 ≡ number = omega arith in
          ap (λ (b : Bool). if b then None else slice_get l (suc number - 1)) more ∙ ap (λ (i : ℕ). slice_get l i) place

  pub net_simulates : Simulates net own_run start Inside Over
  net_simulates =
      record {
        takes_clocks = λ n steps going. step_takes k limits net Holds can made start fits n going;
        never_stuck = λ n stuck. runs_never_stuck k.plan start n stuck;
        begins = fine_at (stands_after 0).place;
        settles = λ s. some_valuation net made.valid s;
        starts = λ going. starts_inside;
        starts_over = starts_over;
        waits = λ n j s t steps going more h c. waits_of n j s t going more h c;
        goes_on = λ n j s t steps goes last h c. goes_on_of n j s t (steps n (omega arith)).0 last h c goes;
        ends = λ n j s t ends last h c. ends_of n j s t (ends.steps n (omega arith)).0 last h c ends.ended;
        faults = λ n j kind place s t faults last h c. faults_of n j s t faults.going last h c kind place faults.faulted;
        stays = stays_of;
        shows = λ n j s wires steps going early h settled. shows_of n j s wires going early h settled;
        shows_ended = λ n j s wires ends h settled. ended_shown n j s wires ends.ended h settled h.how;
        shows_faulted = λ n j kind place s wires faults h settled. faulted_shown n j kind place s wires faults.going faults.faulted h settled h.how;
      }

  -- Writes come last.

  -- where the net stands after so many clocks, as the run does
  starts_at : (o : Outcome) → (stands_after 0).outcome ≡ o → Stand own_run Inside Over 0 (start_of net start)
  starts_at Going is =
      let going = subst (λ (o : Outcome). IsGoing o) (sym is) tt in
      in_step 0 0 (λ i below. absurd (omega (arith, below))) going (net_simulates.takes_clocks 0 (λ i below. absurd (omega (arith, below))) going) refl (net_simulates.starts going)
  starts_at Ended is = at_end 0 0 (record { steps = λ i below. absurd (omega (arith, below)); ended = is }) refl (net_simulates.starts_over is)
  starts_at (Faulted kind place) is = absurd (subst (λ (o : Outcome). IsFine o) is net_simulates.begins)
  starts_at (Stuck memory bank place) is = absurd (subst (λ (o : Outcome). IsFine o) is net_simulates.begins)

  last_clock_moves : (c n j : ℕ) (s t : State) → HasSteps own_run n → IsGoing (own_run.outcome n) → suc j ≡ own_run.length n → c ≡ clocks_of own_run n + j → Inside n j s → Clocks net s t
      → (o : Outcome) → own_run.outcome (suc n) ≡ o → Stand own_run Inside Over (suc c) t
  last_clock_moves c n j s t steps going last at h clock Going is =
      let goes = subst (λ (o : Outcome). IsGoing o) (sym is) tt in
      let fine = subst (λ (o : Outcome). IsFine o) (sym is) tt in
      let more = steps_more own_run n steps going fine in
      in_step (suc n) 0 more goes (net_simulates.takes_clocks (suc n) more goes) (omega (arith, at, last)) (net_simulates.goes_on n j s t more goes last h clock)
  last_clock_moves c n j s t steps going last at h clock Ended is =
      let fine = subst (λ (o : Outcome). IsFine o) (sym is) tt in
      let ends : EndsAfter own_run (suc n) = record { steps = steps_more own_run n steps going fine; ended = is } in
      at_end (suc n) 0 ends (omega (arith, at, last)) (net_simulates.ends n j s t ends last h clock)
  last_clock_moves c n j s t steps going last at h clock (Faulted kind place) is =
      let faults : FaultsAfter own_run n kind place = record { steps = steps; going = going; faulted = is } in
      at_fault n 0 kind place faults (omega (arith, at, last)) (net_simulates.faults n j kind place s t faults last h clock)
  last_clock_moves c n j s t steps going last at h clock (Stuck memory bank place) is = absurd (net_simulates.never_stuck (suc n) (subst (λ (o : Outcome). IsStuck o) (sym is) tt))

  clock_moves : (c : ℕ) (s t : State) → Stand own_run Inside Over c s → Clocks net s t → Stand own_run Inside Over (suc c) t
  clock_moves c s t (in_step n j steps going early at h) clock =
      elim (cases_lt (suc j) (own_run.length n)) [
        | inl more ↦ in_step n (suc j) steps going more (omega (arith, at)) (net_simulates.waits n j s t steps going more h clock)
        | inr last ↦ last_clock_moves c n j s t steps going (omega (arith, early, last)) at h clock (own_run.outcome (suc n)) refl
      ]
  clock_moves c s t (at_end n j ends at over) clock = at_end n (suc j) ends (omega (arith, at)) (net_simulates.stays n j s t over clock)
  clock_moves c s t (at_fault n j kind place faults at over) clock = at_fault n (suc j) kind place faults (omega (arith, at)) (net_simulates.stays n j s t over clock)

  net_stands : (c : ℕ) (s : State) → ClocksTo net c (start_of net start) s → Stand own_run Inside Over c s
  net_stands zero s run = subst (λ (x : State). Stand own_run Inside Over 0 x) run (starts_at (stands_after 0).outcome refl)
  net_stands (suc c) s run = clock_moves c run.0 s (net_stands c run.0 run.1.0) run.1.1

  abbrev WroteLast : (clocks n : ℕ) → Type 0
  WroteLast clocks n = HasSteps own_run (suc n) × (suc clocks ≡ clocks_of own_run (suc n))

  none_named : (fault : Option ℕ) → is_none fault ≡ true → fault ≡ None
  none_named None e = refl
  none_named (Some f) e = absurd (cc)

  -- behind a step without fault the run is fine
  fine_after : (n j : ℕ) (s t : State) → IsGoing (stands_after n).outcome → (last : suc j ≡ own_run.length n) → Inside n j s → Clocks net s t
      → first_fault (step_events k.plan (begun k limits net Holds can made start fits n) (blocks_at (stands_after n).place)) ≡ None → IsFine (stands_after (suc n)).outcome
  fine_after n j s t going last h c none =
      let is = next_state n j s t going last h c ∙ ap (λ (f : Option ℕ). plan_state_after k.plan (stands_after n) (events_of n j s t going last h c) (sets_of n j s t going last h c) f) none in
      subst (λ (x : PlanState). IsFine x.outcome) (sym is) (fine_at _)

  wrote_in_step : (c n j : ℕ) (s : State) (wires : List ℕ) → HasSteps own_run n → IsGoing (own_run.outcome n) → j < own_run.length n → c ≡ clocks_of own_run n + j → Inside n j s → Settles net s wires
      → (q i : ℕ) (ds : List Driver) (d : Driver) → slice_get net.drivers q ≡ Some ds → slice_get ds i ≡ Some d → d.write ≡ true → is_active wires d ≡ true → WroteLast c n
  wrote_in_step c n j s wires steps going early at h settled q i ds d a b w on =
      let commits = writing_last k limits net Holds can made start fits n j s wires going early h settled q i ds d a b w on in
      let parts = both (suc j == spot_length k h.spot) (is_none (fault_seen k h.spot (stands_after n).registers wires)) commits in
      let last : suc j ≡ own_run.length n = eqb-true (suc j) (spot_length k h.spot) parts.0 ∙ length_is k limits net Holds can made start fits n j s wires going early h settled in
      let t : State = record { registers = map (λ r. slice_index wires r.next) net.registers; held = held_after net.table wires net.drivers (ports_of net.table) s.memories s.held; memories = memories_after net.table wires net.drivers (ports_of net.table) s.memories } in
      let clock : Clocks net s t = record { wires = wires; settled = settled; registers = refl; held = refl; memories = refl } in
      let none = sym (fault_is k limits net Holds can made start fits n j s wires going early h settled t refl refl refl last) ∙ none_named (fault_seen k h.spot (stands_after n).registers wires) parts.1 in
      (steps_more own_run n steps going (fine_after n j s t going last h clock none), omega (arith, at, last))

  wrote : (c n : ℕ) (s : State) (wires : List ℕ) → Settles net s wires → Fit own_run c n → (q i : ℕ) (ds : List Driver) (d : Driver) → slice_get net.drivers q ≡ Some ds → slice_get ds i ≡ Some d
      → d.write ≡ true → is_active wires d ≡ true → Stand own_run Inside Over c s → WroteLast c n
  wrote c n s wires settled fit q i ds d a b w on (in_step m j steps going early at h) =
      subst (λ (x : ℕ). WroteLast c x) (one_fit own_run c m n (fit_in_step own_run c m j steps early at) fit) (wrote_in_step c m j s wires steps going early at h settled q i ds d a b w on)
  wrote c n s wires settled fit q i ds d a b w on (at_end m j ends at over) =
      absurd (let silent = (over_shown m j s wires over settled).silent q i ds d a b in (let f : true ≡ false = sym on ∙ silent in cc))
  wrote c n s wires settled fit q i ds d a b w on (at_fault m j kind place faults at over) =
      absurd (let silent = (over_shown m j s wires over settled).silent q i ds d a b in (let f : true ≡ false = sym on ∙ silent in cc))

  pub writes_last : WritesLast net own_run start
  writes_last clocks n s wires run settled fit q i ds d a b w on = wrote clocks n s wires settled fit q i ds d a b w on (net_stands clocks s run)

-- A net that is made of a plan plays it, with the lengths of its schedule.
pub net_plays : (k : Making) (limits : Limits) (net : Net) (Holds : RegisterMeaning) → IsMakeable k limits → IsNetOf k net Holds → PlaysPlan k.plan k.timing.lengths net
net_plays k limits net Holds can made =
    record {
      valid = made.valid;
      table = made.table;
      faults = made.fault_names;
      plays = λ start fits. plays_by (net_simulates k limits net Holds can made start fits);
      writes = λ start fits. writes_last k limits net Holds can made start fits;
    }
