-- The control as a whole: what its parts show is what the control of a plan shows.
use Rattle.std.proofs.Common.{◌≡◌, ℕ, ◌<◌, ◌==◌, ◌&&◌, not, Bool, true, false, Some, List, [], ◌∷◌, length, map, refl, sym, ap, subst, ◌∙◌, arith}
use Rattle.std.specs.Prelude.{option_map, slice_get, slice_index, slice_index_or}
use Rattle.std.proofs.lemmas.List.{length-map}
use Rattle.std.proofs.lemmas.Option.{slice_get-map, slice_get_within, get_or_from_slice_get}
use Rattle.dh_value.specs.declared.kinds.Kind.{Kind}
use Rattle.dh_plan.specs.declared.graphs.State.{State}
use Rattle.dh_plan.specs.declared.operations.PlanBlock.{PlanBlock}
use Rattle.dh_plan.specs.Ways.{GraphStop, to_end, resolve}
use Rattle.dh_cells.specs.PlainCircuits.{PlainCircuit}
use Rattle.dh_cells.specs.Settled.{Signals, IsSettled, Grows, shown}
use Rattle.dh_cells.specs.ShownValues.{is_one, any_one}
use Rattle.dh_cells.proofs.CellsAppended.{grows_then, settled_fewer, wire_stays, wires_stay}
use Rattle.dh_lower.specs.NetOfPlan.{Making}
use Rattle.dh_lower.specs.PortUsers.{is_among}
use Rattle.dh_control.specs.declared.controlling.Activity.{Activity}
use Rattle.dh_control.specs.declared.controlling.Control.{Control}
use Rattle.dh_control.specs.declared.controlling.StepOutcome.{StepOutcome}
use Rattle.dh_control.specs.declared.controlling.ControlRegisters.{ControlRegisters}
use Rattle.dh_control.specs.declared.controlling.Results.{Results}
use Rattle.dh_control.specs.declared.stepping.Nexts.{Nexts}
use Rattle.dh_control.specs.AllBlocks.{AreBlockWords, blocks_set, blocks_code, state_ways, graph_way_at}
use Rattle.dh_control.specs.ControlsMade.{ActivityMade, OutcomeMade, AfterMade, ResultsMade}
use Rattle.dh_control.specs.ControlsWhole.{OwnShown, AreOfMaking, control_wires, ControlMade}
use Rattle.dh_control.specs.SizedWires.{shown_all}
use Rattle.dh_control.specs.StateWires.{blocks_active}
use Rattle.dh_control.specs.StepWires.{any_waits, NextsMade}
use Rattle.dh_control.specs.ThreadHolds.{ControlShows, shown_blocks}
use Rattle.dh_control.specs.WayMoves.{spot_number}
use Rattle.dh_control.proofs.MovedLists.{sized_stay}

-- of a step without fault and one with a fault there is one at most
not_both : (c f last none : Bool) → c ≡ (last && none) → f ≡ (last && not none) → c ≡ true → f ≡ false
not_both c f true true p q on = q
not_both c f true false p q on = absurd (let e : false ≡ true = sym p ∙ on in cc)
not_both c f false none p q on = q

not_either : (c f last none : Bool) → c ≡ (last && none) → f ≡ (last && not none) → f ≡ true → c ≡ false
not_either c f true true p q on = absurd (let e : false ≡ true = sym q ∙ on in cc)
not_either c f true false p q on = p
not_either c f false none p q on = p

only_wire : (x : Signals) (wires : List ℕ) (v : ℕ) → shown_all x wires ≡ v ∷ [] → shown x (slice_index wires 0) ≡ v
only_wire x [] v e = absurd (let f = ap (λ l. length l) e in omega (arith, f))
only_wire x (w ∷ ws) v e = ap (λ l. slice_index l 0) e

module _ (d e f g h i : PlainCircuit) (own : ControlRegisters) (widths registers wires : List ℕ) (blocks : List PlanBlock) (states : List State) (lengths : List ℕ)
    (a : Activity) (o : StepOutcome) (after : List ℕ) (r : Results) (n : Nexts) (active commits : List ℕ) (each : length lengths ≡ length blocks)
    (same_active : active ≡ a.active) (same_commits : commits ≡ o.commits)
    (p : ActivityMade d e own.state (map (λ s. s.block) states) (length blocks) a) (q0 : OutcomeMade e f own.clock active lengths wires blocks o)
    (t0 : AfterMade f g widths registers commits wires blocks after) (u : ResultsMade g h widths after own.state_width own.state o.verdict states r)
    (v : NextsMade h i own.clock_width own.clock own.fault o.pace o.verdict.failed n) where
  q : OutcomeMade e f own.clock a.active lengths wires blocks o
  q = subst (λ (l : List ℕ). OutcomeMade e f own.clock l lengths wires blocks o) same_active q0

  t : AfterMade f g widths registers o.commits wires blocks after
  t = subst (λ (l : List ℕ). AfterMade f g widths registers l wires blocks after) same_commits t0

  g_i : Grows g i
  g_i = grows_then g h i u.grows v.grows

  f_i : Grows f i
  f_i = grows_then f g i t.grows g_i

  e_i : Grows e i
  e_i = grows_then e f i q.grows f_i

  abbrev whole : Control
  whole = record { activity = a; outcome = o; after = after; results = r; nexts = n }

  module _ (k : Making) (kinds : List Kind) (x : Signals) (s : IsSettled i x) (of : AreOfMaking k widths blocks states lengths) (shows_own : OwnShown own registers x)
      (words : AreBlockWords (shown_blocks k x) kinds wires x 0 blocks) where
    in_h : IsSettled h x
    in_h = settled_fewer h i x v.grows s

    in_g : IsSettled g x
    in_g = settled_fewer g i x g_i s

    in_f : IsSettled f x
    in_f = settled_fewer f i x f_i s

    in_e : IsSettled e x
    in_e = settled_fewer e i x e_i s

    states_long : length states ≡ length k.flow.states
    states_long = sym (length-map states (λ s. s.block)) ∙ (ap (λ l. length l) of.state_blocks_are ∙ length-map k.flow.states (λ s. s.block))

    blocks_long : length k.plan.blocks ≡ length blocks
    blocks_long = ap (λ l. length l) (sym of.blocks_are)

    there : (m : ℕ) (stop : GraphStop) → slice_get k.flow.states m ≡ Some stop → m < length states
    there m stop at = let less = slice_get_within k.flow.states m stop at in let l = states_long in omega (arith, less, l)

    way_is : (m : ℕ) (stop : GraphStop) → slice_get k.flow.states m ≡ Some stop → graph_way_at (state_ways states) m ≡ stop.way
    way_is m stop at =
        ap (λ l. slice_index_or l m to_end) of.ways_are
        ∙ get_or_from_slice_get (map (λ s. s.way) k.flow.states) m stop.way to_end (slice_get-map (λ s. s.way) k.flow.states m ∙ ap (option_map (λ s. s.way)) at)

    commit_is : is_one x o.verdict.commit ≡ (is_one x o.pace.last && (shown x o.verdict.failed == 0))
    commit_is = q.commit_is x in_f

    faulted_is : is_one x o.verdict.faulted ≡ (is_one x o.pace.last && not (shown x o.verdict.failed == 0))
    faulted_is = q.faulted_is x in_f

    control_shows : ControlShows k (control_wires own registers whole) x
    control_shows = record {
      clock_is = shows_own.clock_is;
      tick_is = shows_own.tick_is;
      fault_is = shows_own.fault_is;
      state_is = shows_own.state_is;
      registers_are = shows_own.registers_are;
      active_long = p.long ∙ sym blocks_long;
      active_is = λ b less. p.active_is x b in_e (let l = blocks_long in omega (arith, less, l)) ∙ ap (λ bs. is_among b (blocks_active bs (shown x own.state))) of.state_blocks_are;
      going_is = q.going_is x in_f;
      waiting_is = q.waiting_is x in_f ∙ ap (λ l. any_waits x own.clock a.active l 0 (length a.active)) of.lengths_are;
      last_is = q.last_is x in_f ∙ ap (λ l. any_one x a.active && not (any_waits x own.clock a.active l 0 (length a.active))) of.lengths_are;
      failed_is = λ start. q.failed_is x start (shown_blocks k x) kinds in_f words ∙ ap (λ bs. blocks_code x a.active start (shown_blocks k x) 0 bs 0) of.blocks_are;
      commit_fits = q.commit.fits x in_f;
      commit_is = commit_is;
      faulted_is = faulted_is;
      commits_are = λ b less. q.commits_are x b in_f (let l = blocks_long in let m = p.long in omega (arith, less, l, m));
      after_is = t.shows x (shown_blocks k x) kinds in_g words ∙ ap (λ bs. blocks_set x o.commits (shown_blocks k x) 0 bs (shown_all x registers)) of.blocks_are;
      turns = λ on stop at.
          u.turns x k.plan.registers (shown x own.state) in_h of.widths_are on refl (there (shown x own.state) stop at)
          ∙ ap (λ w. (resolve k.plan.registers w (shown_all x after)).registers) (way_is (shown x own.state) stop at);
      keeps = λ off. u.keeps x in_h off;
      goes = λ on stop at.
          only_wire x r.state _
          (u.goes x k.plan.registers (shown x own.state) in_h of.widths_are on (not_both _ _ (is_one x o.pace.last) (shown x o.verdict.failed == 0) commit_is faulted_is on) refl (there (shown x own.state) stop at))
          ∙ (ap (λ m. spot_number m (resolve k.plan.registers (graph_way_at (state_ways states) (shown x own.state)) (shown_all x after)).spot) states_long
          ∙ ap (λ w. spot_number (length k.flow.states) (resolve k.plan.registers w (shown_all x after)).spot) (way_is (shown x own.state) stop at));
      halts = λ wrong.
          only_wire x r.state (length states) (u.halts x in_h (not_either _ _ (is_one x o.pace.last) (shown x o.verdict.failed == 0) commit_is faulted_is wrong) wrong) ∙ states_long;
      stays = λ off fine. only_wire x r.state (shown x own.state) (u.stays x in_h off fine);
      next_clock = v.clock_shows.is x s;
      next_fault = v.fault_shows.is x s;
      done_is = v.done_shows.is x s;
    }

  pub control_made : ControlMade d i own widths registers wires blocks states lengths whole
  control_made = record {
    grows = grows_then d e i p.grows e_i;
    active_wires = wires_stay e i a.active 1 e_i p.wires;
    active_long = p.long;
    commit_wires = wires_stay f i o.commits 1 f_i q.commits;
    commits_long = q.commits_long ∙ p.long;
    commit_wire = wire_stays f i o.verdict.commit 1 f_i q.commit;
    clock_wire = v.clock_shows.there;
    fault_wire = v.fault_shows.there;
    done_wire = v.done_shows.there;
    state_wires = sized_stay h i (own.state_width ∷ []) r.state v.grows u.next;
    news_wires = sized_stay h i widths r.news v.grows u.news;
    shows = λ k kinds x s of shows_own words. control_shows k kinds x s of shows_own words;
  }
