-- A net that is made of a plan goes along with its run, clock by clock.
-- In a step its registers stand for a place in the graph that is the plan's, its memories are those of the run, and the
-- reads whose clock has come are made; so wires show what is there, ports serve their users one at a time, and in the
-- last clock all is shown as it is meant: faults, writes, what is set, and where the plan goes on.
use Rattle.std.proofs.Common.{◌≡◌, ◌↔◌, ℕ, suc, ◌<◌, ◌≤◌, Some, None, Bool, true, false, List, length, map, sym, ap, subst, ◌∙◌, arith}
use Rattle.std.specs.Prelude.{Option, is_none, slice_get, slice_index, ◌==◌, ◌&&◌}
use Rattle.std.proofs.lemmas.Bool.{eqb-true, eq-eqb}
use Rattle.std.proofs.lemmas.Bool.Decides.{nat_tests}
use Rattle.dh_base.specs.declared.outcomes.Outcome.{Outcome}
use Rattle.dh_tree.specs.Tables.{Fits}
use Rattle.dh_tree.specs.declared.tables.MemEntry.{MemEntry}
use Rattle.dh_net.specs.BankPorts.{ports_of}
use Rattle.dh_net.specs.Clock.{State, Settles, Clocks, is_active, has_clashes, has_strays, strays, held_after, memories_after}
use Rattle.dh_net.specs.declared.nets.Driver.{Driver}
use Rattle.dh_net.specs.Laws.{FitsNet}
use Rattle.dh_net.specs.Plays.{Run, IsGoing}
use Rattle.dh_net.specs.declared.nets.Net.{Net}
use Rattle.dh_plan.specs.declared.schedules.Limits.{Limits}
use Rattle.dh_plan.specs.Blocks.{StepStart, in_memories, BlockEvent, RegisterSet, first_fault, puts_of, all_put, all_set}
use Rattle.dh_plan.specs.LegalSchedules.{clocks_in}
use Rattle.dh_plan.specs.PlainPlans.{first_in, operations_in}
use Rattle.dh_plan.specs.PlanRuns.{PlanPlace, PlanNext, start_at, block_values, step_events, step_sets, blocks_at, plan_place_after, PlanState, plan_stands_at, plan_state_after, plan_step_from, plan_state}
use Rattle.dh_plan.specs.PlayedPlans.{longest, plan_run}
use Rattle.dh_plan.specs.SoundPlans.{IsOneOf}
use Rattle.dh_plan.specs.SoundRuns.{IsStepInTurns, StandsInStep}
use Rattle.dh_plan.specs.Ways.{GraphSpot, rests, GraphLed, place_of_spot, leads_to}
use Rattle.dh_plan.proofs.BlocksSolved.{has_one_solution}
use Rattle.dh_plan.proofs.SteppingRuns.{runs_make_steps}
use Rattle.dh_plan.proofs.ValuesAlike.{memories_look_back}
use Rattle.dh_lower.specs.ClockLaws.{PortsSay}
use Rattle.dh_lower.specs.MadeNets.{IsMakeable}
use Rattle.dh_lower.specs.NetOfPlan.{Making, RegisterMeaning, sets_by, spot_length, words_of, fault_seen, led_on, moment_at, ShowsAtClock, IsNetOf}
use Rattle.dh_lower.specs.PortUsers.{Moment}
use Rattle.dh_lower.specs.ShownWords.{in_ports, ReadsAreMade, IsAtClock}
use Rattle.dh_lower.specs.SpotsDone.{blocks_of_spot, spot_after}
use Rattle.dh_lower.specs.StepFacts.{HasPortUsers, StepIsKept, IsMoment}
use Rattle.dh_lower.specs.StepLaws.{PortsWriteStep, ShowsStepEnd}
use Rattle.dh_lower.proofs.AsksMeant.{both}
use Rattle.dh_lower.proofs.FitsKept.{fits_kept, held_long}
use Rattle.dh_lower.proofs.PlanSteps.{going_is}
use Rattle.dh_lower.proofs.ReadsMade.{clashes_never, strays_never, reads_made}
use Rattle.dh_lower.proofs.SpotsFollow.{follows}
use Rattle.dh_lower.proofs.StepsDoBlocks.{steps_do_some, some_not_none, takes_a_clock, all_clocks_long, stands_by_needs, over_at_last, clock_at_most, blocks_are}
use Rattle.dh_lower.proofs.StepsShown.{ends_are_shown, ports_need_no_memories}
use Rattle.dh_lower.proofs.StepWrites.{ports_write_step}
use Rattle.dh_lower.proofs.ValuesShown.{shows_all, ports_look_back}

not_same : (x y : ℕ) → x < y → (x == y) ≡ false
not_same x y h = grind (arith, h, nat_tests)

module _ (k : Making) (limits : Limits) (net : Net) (Holds : RegisterMeaning) (can : IsMakeable k limits) (made : IsNetOf k net Holds) (start : List (List ℕ)) (fits : Fits k.plan.table start) where
  abbrev pub state_of : ℕ → PlanState
  state_of n = plan_state k.plan start n

  abbrev pub run_of : Run
  run_of = plan_run k.plan k.timing.lengths start

  abbrev pub place_in : GraphSpot → PlanPlace
  place_in spot = place_of_spot k.flow.states can.flows.behind can.flows.after spot

  -- how the step that follows n steps begins
  abbrev pub begun : ℕ → StepStart
  begun n = start_at k.plan (state_of n).registers (state_of n).memories

  -- The net is at clock j of the step that follows n steps.
  pub record InStep (n j : ℕ) (s : State) : Type 0 where
    pub spot : GraphSpot
    pub tick : ℕ
    pub holds : Holds spot j tick 0 (state_of n).registers s.registers
    pub place : place_in spot ≡ (state_of n).place
    pub ticked : (tick ≡ 1) ↔ ((0 < n) × (j ≡ 0))
    pub memories : s.memories ≡ (state_of n).memories
    pub fit : FitsNet net s
    pub long : length s.held ≡ length net.drivers
    pub reads : (block : ℕ) → IsOneOf block (blocks_of_spot k.flow.states spot)
        → ReadsAreMade (begun n) (in_ports k.plan k.uses s.held block) (first_in k.plan block) (operations_in k.plan block) (clocks_in k.plan k.timing block) (block_values k.plan (begun n) block) j

  run_stands : (n : ℕ) → StandsInStep k.plan (state_of n)
  run_stands n = runs_make_steps k.plan start can.sound.formed fits n

  pub run_fits : (n : ℕ) → Fits net.table (state_of n).memories
  run_fits n = subst (λ (t : List MemEntry). Fits t (state_of n).memories) (sym made.table) (run_stands n).memories_fit

  pub state_fits : (n : ℕ) (s : State) → s.memories ≡ (state_of n).memories → Fits net.table s.memories
  state_fits n s same = subst (λ (ms : List (List ℕ)). Fits net.table ms) (sym same) (run_fits n)

  pub step_takes : (n : ℕ) → IsGoing (state_of n).outcome → 1 ≤ longest k.timing.lengths (blocks_at (state_of n).place)
  step_takes n going =
      let step = (run_stands n).step (going_is (state_of n).outcome going) in
      takes_a_clock k.plan limits k.timing can.legal (blocks_at (state_of n).place) (steps_do_some k.plan (blocks_at (state_of n).place) step.loops can.sound.formed.nodes step.step)

  port_users : HasPortUsers k.plan k.uses k.users
  port_users = record { formed = can.sound.formed; addressed = can.addressed; ports = can.ports; laid = made.users }

  module _ (n j : ℕ) (s : State) (wires : List ℕ) (going : IsGoing (state_of n).outcome) (early : j < longest k.timing.lengths (blocks_at (state_of n).place)) (h : InStep n j s)
      (settled : Settles net s wires) where
    abbrev active : List ℕ
    active = blocks_of_spot k.flow.states h.spot

    abbrev moment : Moment
    moment = moment_at k h.spot j (state_of n).registers wires

    active_are : active ≡ blocks_at (state_of n).place
    active_are = blocks_are k.flow.states can.flows.behind can.flows.after h.spot ∙ ap blocks_at h.place

    pub length_is : spot_length k h.spot ≡ longest k.timing.lengths (blocks_at (state_of n).place)
    length_is = ap (longest k.timing.lengths) active_are

    step_of : IsStepInTurns k.plan (state_of n).registers active
    step_of = subst (λ (bs : List ℕ). IsStepInTurns k.plan (state_of n).registers bs) (sym active_are) ((run_stands n).step (going_is (state_of n).outcome going))

    pub shows_clock : ShowsAtClock k net Holds h.spot j h.tick (state_of n).registers s.held wires
    shows_clock =
        made.at_clock h.spot j h.tick (state_of n).registers s wires (some_not_none k.plan active (steps_do_some k.plan active step_of.loops can.sound.formed.nodes step_of.step))
        (subst (λ (l : ℕ). j < l) (sym length_is) early) h.holds h.fit settled

    kept : StepIsKept k.plan (state_of n).registers (state_of n).memories active
    kept =
        record {
          banks = can.sound.steps active step_of.loops step_of.step (state_of n).registers (state_of n).memories (run_stands n).fit (run_stands n).memories_fit step_of.turns;
          inside = can.addressed.inside active step_of.loops step_of.step (state_of n).registers (state_of n).memories (run_stands n).fit (run_stands n).memories_fit step_of.turns;
        }

    at_clock : (block : ℕ) → IsOneOf block active
        → IsAtClock (begun n) (in_ports k.plan k.uses s.held block) (first_in k.plan block) (operations_in k.plan block) (clocks_in k.plan k.timing block) (words_of k wires block) (block_values k.plan (begun n) block) j
    at_clock block one =
        let ordered = (can.sound.formed.blocks block).ordered in
        record {
          ordered = ordered;
          back = ports_look_back k.plan k.uses s.held block;
          needs = stands_by_needs k.plan limits k.timing can.legal block;
          shown = ports_need_no_memories k.plan (state_of n).registers (state_of n).memories (in_ports k.plan k.uses s.held block) (first_in k.plan block) (operations_in k.plan block) (words_of k wires block) (shows_clock.words block);
          meant = (has_one_solution (begun n) (in_memories (begun n) (first_in k.plan block)) (first_in k.plan block) (memories_look_back (begun n) (first_in k.plan block)) (operations_in k.plan block) ordered).solves;
          made = h.reads block one;
        }

    now : IsMoment k.plan k.timing k.uses (state_of n).registers (state_of n).memories s.held (words_of k wires) moment
    now =
        record {
          kept = kept;
          blocks = at_clock;
          last = λ commits block one i.
              let last = eqb-true (suc j) (spot_length k h.spot) (both (suc j == spot_length k h.spot) _ commits).0 in
              let over = over_at_last k.plan limits k.timing can.legal active j last block one in
              let most = clock_at_most (operations_in k.plan block) (clocks_in k.plan k.timing block) i (all_clocks_long k.plan limits k.timing can.legal block) in
              omega (arith, over, most);
        }

    say : PortsSay k.plan k.timing k.users (words_of k wires) moment wires net.drivers
    say =
        record {
          many = made.valid.ports ∙ ap (λ (t : List MemEntry). length (ports_of t)) made.table;
          drives = λ q ds p at port. shows_clock.drives q ds p at (subst (λ (t : List MemEntry). slice_get (ports_of t) q ≡ Some p) (sym made.table) port);
        }

    pub never_clashes : has_clashes wires net.drivers ≡ false
    never_clashes = clashes_never k.plan k.timing k.uses k.users port_users (state_of n).registers (state_of n).memories s.held (words_of k wires) moment now wires net.drivers say.many say.drives

    pub never_strays : strays net wires ≡ false
    never_strays =
        subst (λ (t : List MemEntry). has_strays wires net.drivers (ports_of t) ≡ false) (sym made.table)
        (strays_never k.plan k.timing k.uses k.users port_users (state_of n).registers (state_of n).memories s.held (words_of k wires) moment now wires net.drivers say.many say.drives)

    pub writes_step : PortsWriteStep k.plan (state_of n).registers (state_of n).memories moment wires net.drivers
    writes_step = ports_write_step k.plan k.timing k.uses k.users port_users (state_of n).registers (state_of n).memories s.held (words_of k wires) moment now wires net.drivers say.many say.drives

    -- the memories after the clock, by the table of the plan
    memories_are : memories_after net.table wires net.drivers (ports_of net.table) s.memories ≡ memories_after k.plan.table wires net.drivers (ports_of k.plan.table) (state_of n).memories
    memories_are = λ i. memories_after (made.table i) wires net.drivers (ports_of (made.table i)) (h.memories i)

    held_are : held_after net.table wires net.drivers (ports_of net.table) s.memories s.held ≡ held_after k.plan.table wires net.drivers (ports_of k.plan.table) (state_of n).memories s.held
    held_are = λ i. held_after (made.table i) wires net.drivers (ports_of (made.table i)) (h.memories i) s.held

    -- Before the last clock.

    module _ (t : State) (registers : t.registers ≡ map (λ r. slice_index wires r.next) net.registers) (held : t.held ≡ held_after net.table wires net.drivers (ports_of net.table) s.memories s.held)
        (memories : t.memories ≡ memories_after net.table wires net.drivers (ports_of net.table) s.memories) where
      abbrev clock : Clocks net s t
      clock = record { wires = wires; settled = settled; registers = registers; held = held; memories = memories }

      fit_after : FitsNet net t
      fit_after = fits_kept net made.valid s t h.fit (state_fits n s h.memories) clock

      long_after : length t.held ≡ length net.drivers
      long_after = ap length held ∙ held_long net.table wires net.drivers (ports_of net.table) s.memories s.held made.valid.ports h.long

      pub waits_on : suc j < longest k.timing.lengths (blocks_at (state_of n).place) → InStep n (suc j) t
      waits_on more =
          let less : suc j < spot_length k h.spot = subst (λ (l : ℕ). suc j < l) (sym length_is) more in
          let waiting : moment.commits ≡ false = ap (λ (b : Bool). b && is_none (fault_seen k h.spot (state_of n).registers wires)) (not_same (suc j) (spot_length k h.spot) less) in
          record {
            spot = h.spot;
            tick = 0;
            holds = subst (λ (rs : List ℕ). Holds h.spot (suc j) 0 0 (state_of n).registers rs) (sym registers) (shows_clock.waits less);
            place = h.place;
            ticked = (λ e. absurd (cc), λ x. absurd (let none = x.1 in cc));
            memories = memories ∙ (memories_are ∙ writes_step.kept waiting);
            fit = fit_after;
            long = long_after;
            reads = λ block one.
                subst (λ (hs : List ℕ). ReadsAreMade (begun n) (in_ports k.plan k.uses hs block) (first_in k.plan block) (operations_in k.plan block) (clocks_in k.plan k.timing block) (block_values k.plan (begun n) block) (suc j))
                (sym (held ∙ held_are))
                (reads_made k.plan k.timing k.uses k.users port_users (state_of n).registers (state_of n).memories s.held (words_of k wires) moment now wires net.drivers say.many say.drives h.long block one);
          }

      -- In the last clock.

      module _ (at_last : suc j ≡ longest k.timing.lengths (blocks_at (state_of n).place)) where
        last_here : suc j ≡ spot_length k h.spot
        last_here = at_last ∙ sym length_is

        all_shown : (block : ℕ) → IsOneOf block active → words_of k wires block ≡ block_values k.plan (begun n) block
        all_shown block one =
            shows_all (begun n) (in_ports k.plan k.uses s.held block) (first_in k.plan block) (operations_in k.plan block) (clocks_in k.plan k.timing block) (words_of k wires block) (block_values k.plan (begun n) block) j
            (at_clock block one) (all_clocks_long k.plan limits k.timing can.legal block) (over_at_last k.plan limits k.timing can.legal active j last_here block one)

        end_shown : ShowsStepEnd k.plan (state_of n).registers (state_of n).memories (words_of k wires) active
        end_shown = ends_are_shown k.plan (state_of n).registers (state_of n).memories (words_of k wires) active all_shown

        abbrev events : List BlockEvent
        events = step_events k.plan (begun n) (blocks_at (state_of n).place)

        abbrev sets : List RegisterSet
        sets = step_sets k.plan (begun n) (blocks_at (state_of n).place)

        pub fault_is : fault_seen k h.spot (state_of n).registers wires ≡ first_fault events
        fault_is = ap first_fault (end_shown.events ∙ ap (λ (bs : List ℕ). step_events k.plan (begun n) bs) active_are)

        sets_are : sets_by k.plan (words_of k wires) active ≡ sets
        sets_are = end_shown.sets ∙ ap (λ (bs : List ℕ). step_sets k.plan (begun n) bs) active_are

        -- the state of the run behind the step
        pub step_is : state_of (suc n) ≡ plan_state_after k.plan (state_of n) events sets (first_fault events)
        step_is = ap (λ (o : Outcome). plan_step_from k.plan (state_of n) o) (going_is (state_of n).outcome going)

        -- the net behind a step without fault
        pub record StepMade : Type 0 where
          pub led : GraphLed
          pub holds : Holds led.spot 0 1 0 (state_of (suc n)).registers t.registers
          pub place : place_in led.spot ≡ (state_of (suc n)).place
          pub contents : t.memories ≡ (state_of (suc n)).memories
          pub fit : FitsNet net t
          pub long : length t.held ≡ length net.drivers

        pub step_made : first_fault events ≡ None → StepMade
        step_made none =
            let after = all_set sets (state_of n).registers in
            let goes = spot_after k.plan.registers k.flow h.spot after in
            let led_is : led_on k h.spot (state_of n).registers wires ≡ goes
            = ap (λ (ss : List RegisterSet). spot_after k.plan.registers k.flow h.spot (all_set ss (state_of n).registers)) sets_are in
            let next_is : state_of (suc n) ≡ plan_stands_at (suc (state_of n).steps) (all_put (puts_of events) (state_of n).memories) (plan_place_after k.plan.registers (state_of n).place after)
            = step_is ∙ ap (λ (f : Option ℕ). plan_state_after k.plan (state_of n) events sets f) none in
            let leads : leads_to k.flow.states can.flows.behind can.flows.after goes ≡ plan_place_after k.plan.registers (state_of n).place after
            = follows k.flow k.plan can.flows h.spot after ∙ ap (λ (p : PlanPlace). plan_place_after k.plan.registers p after) h.place in
            let registers_are : goes.registers ≡ (state_of (suc n)).registers = ap (λ (x : PlanNext). x.registers) leads ∙ sym (ap (λ (x : PlanState). x.registers) next_is) in
            let seen : fault_seen k h.spot (state_of n).registers wires ≡ None = fault_is ∙ none in
            let commits : moment.commits ≡ true
            = ap (λ (b : Bool). b && is_none (fault_seen k h.spot (state_of n).registers wires)) (eq-eqb (suc j) (spot_length k h.spot) last_here) ∙ ap (λ (f : Option ℕ). is_none f) seen in
            record {
              led = goes;
              holds =
                  subst (λ (rs : List ℕ). Holds goes.spot 0 1 0 (state_of (suc n)).registers rs) (sym registers)
                  (subst (λ (rs : List ℕ). Holds goes.spot 0 1 0 rs (map (λ r. slice_index wires r.next) net.registers)) registers_are
                  (subst (λ (l : GraphLed). Holds l.spot 0 1 0 l.registers (map (λ r. slice_index wires r.next) net.registers)) led_is (shows_clock.goes_on last_here seen)));
              place = ap (λ (x : PlanNext). x.place) leads ∙ sym (ap (λ (x : PlanState). x.place) next_is);
              contents =
                  memories ∙ (memories_are ∙ (writes_step.made commits
                  ∙ (ap (λ (bs : List ℕ). all_put (puts_of (step_events k.plan (begun n) bs)) (state_of n).memories) active_are ∙ sym (ap (λ (x : PlanState). x.memories) next_is))));
              fit = fit_after;
              long = long_after;
            }

        -- a step with a fault
        pub faulted_holds : (fault : ℕ) → first_fault events ≡ Some fault → Holds rests 0 0 (suc fault) (state_of n).registers t.registers
        faulted_holds fault some =
            subst (λ (rs : List ℕ). Holds rests 0 0 (suc fault) (state_of n).registers rs) (sym registers) (shows_clock.faults fault last_here (fault_is ∙ some))

        pub faulted_memories : (fault : ℕ) → first_fault events ≡ Some fault → t.memories ≡ (state_of n).memories
        faulted_memories fault some =
            let waiting : moment.commits ≡ false
            = ap (λ (b : Bool). b && is_none (fault_seen k h.spot (state_of n).registers wires)) (eq-eqb (suc j) (spot_length k h.spot) last_here) ∙ ap (λ (f : Option ℕ). is_none f) (fault_is ∙ some) in
            memories ∙ (memories_are ∙ writes_step.kept waiting)

        pub faulted_fit : FitsNet net t
        faulted_fit = fit_after

    -- a driver that writes is active only in the last clock, of a step without fault
    pub writing_last : (q i : ℕ) (ds : List Driver) (d : Driver) → slice_get net.drivers q ≡ Some ds → slice_get ds i ≡ Some d → d.write ≡ true → is_active wires d ≡ true → moment.commits ≡ true
    writing_last q i ds d a b w on = writes_step.last q i ds d a b w on
