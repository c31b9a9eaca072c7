-- A net that is wired so is the net of its plan: what the control shows, and what the next registers hold.
use Rattle.std.proofs.Common.{◌≡◌, ℕ, zero, suc, ◌<◌, ◌==◌, ◌&&◌, inl, inr, Bool, true, false, if◌then◌else◌, Some, None, List, [], ◌∷◌, length, map, drop, refl, sym, ap, subst, ◌∙◌, arith}
use Rattle.std.specs.Prelude.{Option, slice_get, slice_index, slice_set}
use Rattle.std.proofs.lemmas.List.{length-replicate, length-set}
use Rattle.std.proofs.lemmas.Option.{slice_get_cases, slice_get_within}
use Rattle.dh_value.specs.declared.kinds.Kind.{Kind}
use Rattle.dh_value.specs.declared.words.Word.{Word}
use Rattle.dh_net.specs.BankPorts.{ports_of}
use Rattle.dh_net.specs.Clock.{State, IsValuation, is_active}
use Rattle.dh_net.specs.Laws.{FitsNet}
use Rattle.dh_net.specs.declared.nets.Driver.{Driver}
use Rattle.dh_net.specs.declared.nets.Net.{Net}
use Rattle.dh_net.specs.declared.nets.Register.{Register}
use Rattle.dh_net.specs.declared.ports.Port.{Port}
use Rattle.dh_plan.specs.Blocks.{AreValues, all_set}
use Rattle.dh_plan.specs.LegalSchedules.{Timing, clocks_in}
use Rattle.dh_plan.specs.PlainPlans.{PlainPlan, first_in, operations_in}
use Rattle.dh_plan.specs.PlanRuns.{start_at, first_registers, flag_holds, counted_up}
use Rattle.dh_plan.specs.Ways.{GraphStop, GraphSpot, rests, in_state, in_fork, GraphWay, to_state, by_flag, by_count, to_fork, to_end, resolve, way_of_stop}
use Rattle.dh_cells.specs.Settled.{Signals, signals, shown}
use Rattle.dh_cells.specs.ShownValues.{is_one}
use Rattle.dh_lower.specs.NetOfPlan.{Making, RegisterMeaning, words_of, sets_by, spot_length, fault_seen, led_on, moment_at, next_registers, ShowsAtClock, ShowsOver, IsNetOf}
use Rattle.dh_lower.specs.PortUsers.{User, Moment, DriveFor, is_among, operation_asks, user_asks}
use Rattle.dh_lower.specs.ShownWords.{in_ports}
use Rattle.dh_lower.specs.SpotsDone.{blocks_of_spot}
use Rattle.dh_control.specs.SizedWires.{shown_all}
use Rattle.dh_control.specs.ThreadHolds.{ThreadStandsAt, holds_thread, own_registers, ControlWires, next_wires, ControlShows}
use Rattle.dh_control.specs.WayMoves.{spot_number}
use Rattle.dh_control.specs.WiredNets.{IsStraight, MomentShown, IsWired}
use Rattle.dh_control.proofs.StepEnds.{waits_next, goes_on_next, faults_next, commits_as, active_as, clock_as, outputs, over_next, over_outputs, over_active, over_commit}

-- Where a way of one thread leads.

led_stands : (states : ℕ) (kinds : List Kind) (w : GraphWay) (registers : List ℕ) → IsStraight states w
    → ThreadStandsAt states (resolve kinds w registers).spot (spot_number states (resolve kinds w registers).spot) × (length (resolve kinds w registers).registers ≡ length registers)
led_stands states kinds (to_state state) registers h = ((refl, h), refl)
led_stands states kinds (by_flag flag w v) registers h =
    by (flag_holds registers flag) (led_stands states kinds w registers h.0) (led_stands states kinds v registers h.1)
  where
    by : (t : Bool)
        → ThreadStandsAt states (resolve kinds w registers).spot (spot_number states (resolve kinds w registers).spot) × (length (resolve kinds w registers).registers ≡ length registers)
        → ThreadStandsAt states (resolve kinds v registers).spot (spot_number states (resolve kinds v registers).spot) × (length (resolve kinds v registers).registers ≡ length registers)
        → ThreadStandsAt states (if t then resolve kinds w registers else resolve kinds v registers).spot (spot_number states (if t then resolve kinds w registers else resolve kinds v registers).spot)
        × (length (if t then resolve kinds w registers else resolve kinds v registers).registers ≡ length registers)
    by true p q = p
    by false p q = q
led_stands states kinds (by_count counter last w v) registers h =
    let past = led_stands states kinds v (slice_set registers counter 0) h.1 in
    let again = led_stands states kinds w (counted_up kinds counter registers) h.0 in
    by (slice_index registers counter == last) (past.0, past.1 ∙ length-set registers counter 0) (again.0, again.1 ∙ length-set registers counter _)
  where
    by : (t : Bool)
        → ThreadStandsAt states (resolve kinds v (slice_set registers counter 0)).spot (spot_number states (resolve kinds v (slice_set registers counter 0)).spot)
        × (length (resolve kinds v (slice_set registers counter 0)).registers ≡ length registers)
        → ThreadStandsAt states (resolve kinds w (counted_up kinds counter registers)).spot (spot_number states (resolve kinds w (counted_up kinds counter registers)).spot)
        × (length (resolve kinds w (counted_up kinds counter registers)).registers ≡ length registers)
        → ThreadStandsAt states (if t then resolve kinds v (slice_set registers counter 0) else resolve kinds w (counted_up kinds counter registers)).spot
        (spot_number states (if t then resolve kinds v (slice_set registers counter 0) else resolve kinds w (counted_up kinds counter registers)).spot)
        × (length (if t then resolve kinds v (slice_set registers counter 0) else resolve kinds w (counted_up kinds counter registers)).registers ≡ length registers)
    by true p q = p
    by false p q = q
led_stands states kinds (to_fork fork ws) registers h = absurd h
led_stands states kinds to_end registers h = (refl, refl)

sets_long : (ss : List _) (registers : List ℕ) → length (all_set ss registers) ≡ length registers
sets_long [] registers = refl
sets_long (s ∷ ss) registers = sets_long ss (slice_set registers s.register s.bits) ∙ length-set registers s.register s.bits

-- The registers of the net take the wires of the control.

taken : (rs : List Register) (wires : List ℕ) (x : Signals) → x.wires ≡ wires → map (λ r. slice_index wires r.next) rs ≡ shown_all x (map (λ r. r.next) rs)
taken [] wires x e = refl
taken (r ∷ rs) wires x e = (λ i. slice_index (sym e i) r.next ∷ taken rs wires x e i)

-- The drivers of a port whose users do not ask.

never_asks : (plan : PlainPlan) (t : Timing) (words : ℕ → List Word) (m : Moment) (u : User) → m.active ≡ [] → user_asks plan t words m u ≡ false
never_asks plan t words m u none =
    ap (λ bs. is_among u.block bs
    && operation_asks (first_in plan u.block) (words u.block) u.bank (slice_index (clocks_in plan t u.block) u.place) m (slice_get (operations_in plan u.block) u.place)) none

silent_at : (plan : PlainPlan) (t : Timing) (words : ℕ → List Word) (m : Moment) (p : Port) (wires : List ℕ) (ds : List Driver) (us : List User) (i : ℕ) (d : Driver) → m.active ≡ []
    → DriveFor plan t words m p wires ds us → slice_get ds i ≡ Some d → is_active wires d ≡ false
silent_at plan t words m p wires [] us i d none h at = absurd (let f : None ≡ Some d = at in cc)
silent_at plan t words m p wires (e ∷ ds) [] i d none h at = absurd h
silent_at plan t words m p wires (e ∷ ds) (u ∷ us) zero d none h at =
    let same : e ≡ d = (let f : Some e ≡ Some d = at in cc) in
    let off : slice_index wires e.enable ≡ 0 = (h.0.enable ∙ ap (λ t. if t then 1 else 0) (never_asks plan t words m u none)) in
    ap (λ y. slice_index wires y.enable == 1) (sym same) ∙ ap (λ n. n == 1) off
silent_at plan t words m p wires (e ∷ ds) (u ∷ us) (suc i) d none h at = silent_at plan t words m p wires ds us i d none h.1 at

module _ (k : Making) (net : Net) (c : ControlWires) (w : IsWired k net c) where
  abbrev states : ℕ
  states = length k.flow.states

  abbrev Holds : RegisterMeaning
  Holds = holds_thread (length k.flow.states) (length k.plan.registers)

  nexts : (wires held registers : List ℕ) → next_registers k net Holds wires ≡ shown_all (signals registers held wires) (next_wires c)
  nexts wires held registers = taken net.registers wires (signals registers held wires) refl ∙ ap (λ l. shown_all (signals registers held wires) l) w.nexts_are

  -- in a state
  module _ (s : State) (wires : List ℕ) (fits : FitsNet net s) (v : IsValuation net.table net.cells s.registers s.held wires)
      (n clock tick : ℕ) (registers : List ℕ) (stop : GraphStop) (less : n < length k.flow.states) (at : slice_get k.flow.states n ≡ Some stop)
      (long : length registers ≡ length k.plan.registers) (holds : s.registers ≡ clock ∷ tick ∷ 0 ∷ n ∷ registers) (early : clock < spot_length k (in_state n)) where
    abbrev x : Signals
    x = signals s.registers s.held wires

    shows : ControlShows k c x
    shows = w.control s wires fits v (ap (λ (l : List ℕ). length (drop own_registers l)) holds ∙ long)

    there : stop.block < length k.plan.blocks
    there = w.blocks n stop at

    moment : MomentShown (length k.plan.blocks) c x (moment_at k (in_state n) clock registers wires)
    moment = record {
      blocks = λ b small. active_as k c x shows clock tick n registers stop holds at there (w.wide stop.block) b small;
      clock_is = clock_as k c x shows clock tick n registers stop holds at there (w.wide stop.block);
      commits_are = λ b small.
          shows.commits_are b small
          ∙ (λ i. commits_as k c x shows clock tick n registers stop holds at there (w.wide stop.block) early i && active_as k c x shows clock tick n registers stop holds at there (w.wide stop.block) b small i);
    }

    led_there : fault_seen k (in_state n) registers wires ≡ None
        → ThreadStandsAt (length k.flow.states) (led_on k (in_state n) registers wires).spot (spot_number (length k.flow.states) (led_on k (in_state n) registers wires).spot)
        × (length (led_on k (in_state n) registers wires).registers ≡ length k.plan.registers)
    led_there fine =
        let so = led_stands (length k.flow.states) k.plan.registers (way_of_stop (slice_get k.flow.states n))
        (all_set (sets_by k.plan (words_of k wires) (blocks_of_spot k.flow.states (in_state n))) registers)
        (subst (λ (o : Option GraphStop). IsStraight (length k.flow.states) (way_of_stop o)) (sym at) (w.straight n stop at)) in
        (so.0, so.1 ∙ (sets_long (sets_by k.plan (words_of k wires) (blocks_of_spot k.flow.states (in_state n))) registers ∙ long))

    shows_clock : ShowsAtClock k net Holds (in_state n) clock tick registers s.held wires
    shows_clock =
        let outs = outputs k c x shows clock tick n registers stop holds at there (w.wide stop.block) in
        record {
          words = λ block.
              subst (λ (rs : List ℕ). AreValues (start_at k.plan rs []) (in_ports k.plan k.uses s.held block) (first_in k.plan block) (operations_in k.plan block) (words_of k wires block))
              (ap (λ l. drop own_registers l) holds) (w.words s wires fits v block);
          waits = λ before. (n, ((refl, less), (long, nexts wires s.held s.registers ∙ waits_next k c x shows clock tick n registers stop holds at there (w.wide stop.block) before)));
          goes_on = λ last fine. (
            spot_number (length k.flow.states) (led_on k (in_state n) registers wires).spot,
            ((led_there fine).0, ((led_there fine).1, nexts wires s.held s.registers ∙ goes_on_next k c x shows clock tick n registers stop holds at there (w.wide stop.block) last fine)),
          );
          faults = λ fault last seen.
              (length k.flow.states, (refl, (long, nexts wires s.held s.registers ∙ faults_next k c x shows clock tick n registers stop holds at there (w.wide stop.block) last fault seen)));
          drives = λ q ds p a b. w.drives s wires (moment_at k (in_state n) clock registers wires) fits v moment q ds p a b;
          ticks = ap (λ n. slice_index wires n) w.tick_is ∙ outs.0;
          not_done = ap (λ n. slice_index wires n) w.done_is ∙ outs.1.0;
          no_fault = ap (λ n. slice_index wires n) w.fault_is ∙ outs.1.1;
        }

  at_clock : (spot : GraphSpot) (clock tick : ℕ) (registers : List ℕ) (s : State) (wires : List ℕ)
      → (blocks_of_spot k.flow.states spot ≡ [] → ⊥) → clock < spot_length k spot → Holds spot clock tick 0 registers s.registers
      → FitsNet net s → IsValuation net.table net.cells s.registers s.held wires → ShowsAtClock k net Holds spot clock tick registers s.held wires
  at_clock rests clock tick registers s wires some early h fits v = absurd (some refl)
  at_clock (in_fork fork ss) clock tick registers s wires some early h fits v = absurd h.1.0
  at_clock (in_state state) clock tick registers s wires some early h fits v =
      elim (slice_get_cases k.flow.states state).1 [
        | inl found ↦
            shows_clock s wires fits v state clock tick registers found.0 h.1.0.1 found.2 h.1.1.0 (h.1.1.1 ∙ ap (λ n. clock ∷ tick ∷ 0 ∷ n ∷ registers) h.1.0.0) early
        | inr past ↦ absurd (let a = past.0 in let b = h.1.0.1 in omega (arith, a, b))
      ]

  over_at : (clock tick fault : ℕ) (registers : List ℕ) (s : State) (wires : List ℕ)
      → Holds rests clock tick fault registers s.registers → FitsNet net s → IsValuation net.table net.cells s.registers s.held wires
      → ShowsOver k net Holds tick fault registers wires
  over_at clock tick fault registers s wires h fits v =
      let x = signals s.registers s.held wires in
      let holds : s.registers ≡ clock ∷ tick ∷ fault ∷ length k.flow.states ∷ registers = h.1.1.1 ∙ ap (λ n. clock ∷ tick ∷ fault ∷ n ∷ registers) h.1.0 in
      let shows = w.control s wires fits v (ap (λ (l : List ℕ). length (drop own_registers l)) holds ∙ h.1.1.0) in
      let outs = over_outputs k c x shows clock tick fault registers holds in
      let m : Moment = record { active = []; clock = shown x c.clock; commits = false } in
      let moment : MomentShown (length k.plan.blocks) c x m = record {
        blocks = λ b small. over_active k c x shows clock tick fault registers holds b small;
        clock_is = refl;
        commits_are = λ b small. shows.commits_are b small ∙ ap (λ t. t && is_one x (slice_index c.active b)) (over_commit k c x shows clock tick fault registers holds);
      } in
      record {
        stays = (length k.flow.states, (refl, (h.1.1.0, nexts wires s.held s.registers ∙ over_next k c x shows clock tick fault registers holds)));
        silent = λ q i ds d a b.
            elim (slice_get_cases (ports_of net.table) q).1 [
              | inl found ↦ silent_at k.plan k.timing (words_of k wires) m found.0 wires ds (k.users q) i d refl (w.drives s wires m fits v moment q ds found.0 a found.2) b
              | inr past ↦ absurd (let inside = slice_get_within net.drivers q ds a in let same = w.valid.ports in let beyond = past.0 in omega (arith, inside, same, beyond))
            ];
        ticks = ap (λ n. slice_index wires n) w.tick_is ∙ outs.0;
        done = ap (λ n. slice_index wires n) w.done_is ∙ outs.1.0;
        fault_is = ap (λ n. slice_index wires n) w.fault_is ∙ outs.1.1;
      }

  pub thread_net : IsNetOf k net Holds
  thread_net =
      let first = led_stands (length k.flow.states) k.plan.registers k.flow.first (first_registers k.plan) w.first_straight in
      record {
        valid = w.valid;
        table = w.table;
        fault_names = w.fault_names;
        users = w.users;
        starts = (
          spot_number (length k.flow.states) (resolve k.plan.registers k.flow.first (first_registers k.plan)).spot,
          (first.0, (first.1 ∙ length-replicate (length k.plan.registers) 0, w.initials_are)),
        );
        at_clock = at_clock;
        over = over_at;
      }
