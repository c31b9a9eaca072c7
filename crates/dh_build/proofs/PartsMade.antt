-- The parts of a net, one after the other.
use Rattle.std.proofs.Common.{◌≡◌, ℕ, suc, ◌+◌, ◌<◌, ◌≤◌, ◌^◌, List, [], ◌∷◌, length, map, refl, sym, ap, subst, ◌∙◌, arith}
use Rattle.std.specs.Prelude.{Option, slice_get, slice_index, option_map}
use Rattle.std.specs.List.{AllByRecursion}
use Rattle.std.proofs.lemmas.List.{get_or-map, length-map}
use Rattle.std.proofs.lemmas.Option.{slice_get-get_or, slice_get-map}
use Rattle.dh_value.specs.declared.kinds.Kind.{Kind}
use Rattle.dh_value.specs.declared.kinds.Kind.TheVariants as kind
use Rattle.dh_value.specs.Words.{IsKind, width_of}
use Rattle.dh_tree.specs.declared.tables.MemEntry.{MemEntry}
use Rattle.dh_net.specs.declared.nets.Driver.{Driver}
use Rattle.dh_plan.specs.declared.graphs.State.{State}
use Rattle.dh_plan.specs.declared.operations.PlanBlock.{PlanBlock}
use Rattle.dh_plan.specs.BoundPorts.{Uses}
use Rattle.dh_plan.specs.PlainPlans.{PlainPlan}
use Rattle.dh_plan.specs.SeenGraphs.{FitsThread}
use Rattle.dh_cells.specs.PlainCircuits.{PlainCircuit}
use Rattle.dh_cells.specs.Settled.{Adds, AreWires, Grows, IsWire}
use Rattle.dh_cells.specs.ShownValues.{register_shown, match_shown}
use Rattle.dh_cells.proofs.CellsAppended.{grows_then, shows_later, wires_stay}
use Rattle.dh_datapath.specs.declared.blocks.PlanWires.{PlanWires}
use Rattle.dh_datapath.specs.BlockWires.{PlanAdded, ShowsPlan}
use Rattle.dh_datapath.specs.RegistersShown.{HasRegisters}
use Rattle.dh_control.specs.declared.controlling.Control.{Control}
use Rattle.dh_control.specs.declared.controlling.ControlRegisters.{ControlRegisters}
use Rattle.dh_control.specs.declared.driving.MemoryPorts.{MemoryPorts}
use Rattle.dh_control.specs.declared.gathering.Keyed.{Keyed}
use Rattle.dh_control.specs.AllBlocks.{ChecksSuit, SetsSuit}
use Rattle.dh_control.specs.ControlsWhole.{ControlMade, OwnWires}
use Rattle.dh_control.specs.SizedWires.{WiresAreSized}
use Rattle.dh_control.specs.WayMoves.{HoldsStates}
use Rattle.dh_control.specs.WireLists.{EachTells}
use Rattle.dh_control.proofs.ListFacts.{at_index}
use Rattle.dh_build.specs.BuiltParts.{net_widths, OwnShows, OwnAdded, ShownAdded, IsTimed, DriversAdded}
use Rattle.dh_build.specs.declared.building.ShownWires.{ShownWires}
use Rattle.dh_build.specs.declared.building.Sizes.{Sizes}
use Rattle.dh_build.specs.DrivenUsers.{UsesDriven, UsesSuit, plan_times}
use Rattle.dh_build.specs.MemoryTables.{AreMemoryPorts}

-- The net's own registers.

pub own_later : (d e : PlainCircuit) (own : ControlRegisters) → Grows d e → OwnShows d own → OwnShows e own
own_later d e own g h = record {
  clock = shows_later d e own.clock own.clock_width (register_shown 0) g h.clock;
  tick = shows_later d e own.tick 1 (register_shown 1) g h.tick;
  fault = shows_later d e own.fault 32 (register_shown 2) g h.fault;
  state = shows_later d e own.state own.state_width (register_shown 3) g h.state;
}

abbrev pub own_of : (clock_width clock tick fault state_width state : ℕ) → ControlRegisters
own_of clock_width clock tick fault state_width state = record { clock_width = clock_width; clock = clock; tick = tick; fault = fault; state_width = state_width; state = state }

pub own_made : (a b c d e : PlainCircuit) (clock_width clock tick fault state_width state : ℕ) → Adds a b clock clock_width (register_shown 0) → Adds b c tick 1 (register_shown 1) → Adds c d fault 32 (register_shown 2)
    → Adds d e state state_width (register_shown 3) → OwnAdded a e clock_width state_width (own_of clock_width clock tick fault state_width state)
own_made a b c d e clock_width clock tick fault state_width state p q r s =
    let de = s.grows in
    let ce = grows_then c d e r.grows de in
    let be = grows_then b c e q.grows ce in
    record {
      grows = grows_then a b e p.grows be;
      clock_width_is = refl;
      state_width_is = refl;
      shows = record {
        clock = shows_later b e clock clock_width (register_shown 0) be p.shows;
        tick = shows_later c e tick 1 (register_shown 1) ce q.shows;
        fault = shows_later d e fault 32 (register_shown 2) de r.shows;
        state = s.shows;
      };
    }

-- The plan's.

behind_four : (a b c e : ℕ) (ws : List ℕ) (n r : ℕ) → n ≡ suc (suc (suc (suc r))) → slice_get (a ∷ b ∷ c ∷ e ∷ ws) n ≡ slice_get ws r
behind_four a b c e ws n r is = ap (λ (k : ℕ). slice_get (a ∷ b ∷ c ∷ e ∷ ws) k) is

pub has_registers : (d : PlainCircuit) (plan : PlainPlan) (s : Sizes) → d.widths ≡ net_widths s.clock_width s.state_width s.widths → s.widths ≡ map width_of plan.registers → AllByRecursion IsKind plan.registers
    → HasRegisters d 4 plan.registers
has_registers d plan s widths are kinds = record {
  sized = λ r less. at_index IsKind plan.registers r kind.Bool kinds less;
  there = λ r less.
      ap (λ (l : List ℕ). slice_get l (4 + r)) (widths ∙ ap (λ (l : List ℕ). net_widths s.clock_width s.state_width l) are)
      ∙ (behind_four s.clock_width 1 32 s.state_width (map width_of plan.registers) (4 + r) r (let n : 4 + r ≡ suc (suc (suc (suc r))) = omega arith in n)
      ∙ (slice_get-map width_of plan.registers r ∙ ap (λ (o : Option Kind). option_map width_of o) (slice_get-get_or plan.registers r kind.Bool less)));
}

pub shown_made : (a b c : PlainCircuit) (plan : PlainPlan) (u : Uses) (s : Sizes) (own : ControlRegisters) (wires : PlanWires) → OwnAdded a b s.clock_width s.state_width own → PlanAdded b c plan u 4 wires
    → ShownAdded a c plan u s (record { own = own; wires = wires })
shown_made a b c plan u s own wires h p = record {
  grows = grows_then a b c h.grows p.grows;
  clock_width_is = h.clock_width_is;
  state_width_is = h.state_width_is;
  own = own_later b c own p.grows h.shows;
  offset_is = p.offset_is;
  plan_shown = p.shows;
}

-- Control.

pub own_wires : (d : PlainCircuit) (plan : PlainPlan) (s : Sizes) (own : ControlRegisters) (states : ℕ) → OwnShows d own → own.state_width ≡ s.state_width → HoldsStates s.state_width states → OwnWires d own states
own_wires d plan s own states h is holds = record {
  clock_wire = h.clock.there;
  fault_wire = h.fault.there;
  state_wire = h.state.there;
  holds = subst (λ (n : ℕ). HoldsStates n states) (sym is) holds;
}

pub registers_sized : (d : PlainCircuit) (plan : PlainPlan) (u : Uses) (w : PlanWires) (widths wires : List ℕ) → ShowsPlan d plan u w → widths ≡ map width_of plan.registers → wires ≡ w.registers.wires → WiresAreSized d widths wires
registers_sized d plan u w widths wires shows widths_are wires_are =
    subst (λ (l : List ℕ). WiresAreSized d l wires) (sym widths_are)
    (subst (λ (l : List ℕ). WiresAreSized d (map width_of plan.registers) l) (sym wires_are)
    (let long = length-map plan.registers width_of in
    record {
      long = (let l = shows.registers.long in l ∙ sym long);
      each = λ i less.
          subst (λ (n : ℕ). IsWire d (slice_index w.registers.wires i) n) (sym (get_or-map width_of plan.registers i kind.Bool 0 (omega (arith, less, long))))
          (shows.registers.each i (omega (arith, less, long))).there;
    }))

pub sets_as : (d : PlainCircuit) (widths widths_now wires wires_now : List ℕ) (blocks blocks_now : List PlanBlock) → widths_now ≡ widths → wires_now ≡ wires → blocks_now ≡ blocks → SetsSuit d widths wires blocks
    → SetsSuit d widths_now wires_now blocks_now
sets_as d widths widths_now wires wires_now blocks blocks_now e f g h =
    subst (λ (l : List ℕ). SetsSuit d l wires_now blocks_now) (sym e)
    (subst (λ (l : List ℕ). SetsSuit d widths l blocks_now) (sym f) (subst (λ (l : List PlanBlock). SetsSuit d widths wires l) (sym g) h))

pub checks_as : (d : PlainCircuit) (wires wires_now : List ℕ) (blocks blocks_now : List PlanBlock) → wires_now ≡ wires → blocks_now ≡ blocks → ChecksSuit d wires blocks → ChecksSuit d wires_now blocks_now
checks_as d wires wires_now blocks blocks_now f g h = subst (λ (l : List ℕ). ChecksSuit d l blocks_now) (sym f) (subst (λ (l : List PlanBlock). ChecksSuit d wires l) (sym g) h)

pub control_as : (d e : PlainCircuit) (own : ControlRegisters) (widths widths_now registers registers_now wires wires_now : List ℕ) (blocks blocks_now : List PlanBlock) (states : List State) (lengths lengths_now : List ℕ) (c : Control)
    → widths_now ≡ widths → registers_now ≡ registers → wires_now ≡ wires → blocks_now ≡ blocks → lengths_now ≡ lengths
    → ControlMade d e own widths_now registers_now wires_now blocks_now states lengths_now c → ControlMade d e own widths registers wires blocks states lengths c
control_as d e own widths widths_now registers registers_now wires wires_now blocks blocks_now states lengths lengths_now c p q r s t h =
    subst (λ (l : List ℕ). ControlMade d e own l registers wires blocks states lengths c) p
    (subst (λ (l : List ℕ). ControlMade d e own widths_now l wires blocks states lengths c) q
    (subst (λ (l : List ℕ). ControlMade d e own widths_now registers_now l blocks states lengths c) r
    (subst (λ (l : List PlanBlock). ControlMade d e own widths_now registers_now wires_now l states lengths c) s
    (subst (λ (l : List ℕ). ControlMade d e own widths_now registers_now wires_now blocks_now states l c) t h))))

pub timed : (d e : PlainCircuit) (plan : PlainPlan) (own : ControlRegisters) (widths registers wires : List ℕ) (blocks : List PlanBlock) (states : List State) (lengths : List ℕ) (c : Control) → blocks ≡ plan.blocks
    → ControlMade d e own widths registers wires blocks states lengths c → IsTimed e plan c
timed d e plan own widths registers wires blocks states lengths c is h =
    let count = ap (λ (l : List PlanBlock). length l) is in
    record { active = h.active_wires; active_long = h.active_long ∙ count; commits = h.commit_wires; commits_long = h.commits_long ∙ count }

-- Drivers.

each_wire : (d : PlainCircuit) (wires : List ℕ) → ((i : ℕ) → i < length wires → IsWire d (slice_index wires i) 1) → AreWires d wires 1
each_wire d [] h = tt
each_wire d (w ∷ ws) h = (h 0 (omega arith), each_wire d ws (λ i less. h (suc i) (omega (arith, less))))

pub told_wires : (a b : PlainCircuit) (clock count : ℕ) (wires now : List ℕ) → EachTells a b (match_shown clock) count wires → now ≡ wires → AreWires b now 1
told_wires a b clock count wires now h is =
    subst (λ (l : List ℕ). AreWires b l 1) (sym is) (each_wire b wires (λ i less. (h.each i (let long = h.long in omega (arith, less, long))).there))

pub wires_as : (d e : PlainCircuit) (wires now : List ℕ) → Grows d e → now ≡ wires → AreWires d wires 1 → AreWires e now 1
wires_as d e wires now g is h = subst (λ (l : List ℕ). AreWires e l 1) (sym is) (wires_stay d e wires 1 g h)

pub early_as : (clocks clocks_now at at_now : List ℕ) (longest : ℕ) → clocks_now ≡ clocks → at_now ≡ at → length at ≡ longest → AllByRecursion (λ n. n < longest) clocks → AllByRecursion (λ n. n < length at_now) clocks_now
early_as clocks clocks_now at at_now longest e f long h =
    subst (λ (l : List ℕ). AllByRecursion (λ n. n < length at_now) l) (sym e)
    (subst (λ (k : ℕ). AllByRecursion (λ n. n < k) clocks) (sym (ap (λ (l : List ℕ). length l) f ∙ long)) h)

pub suits_as : (d : PlainCircuit) (plan : PlainPlan) (u : Uses) (kinds kinds_now : List Kind) (wires wires_now : List ℕ) (ms : List MemoryPorts) → kinds_now ≡ kinds → wires_now ≡ wires → UsesSuit d plan u kinds wires ms
    → UsesSuit d plan u kinds_now wires_now ms
suits_as d plan u kinds kinds_now wires wires_now ms e f h =
    subst (λ (l : List Kind). UsesSuit d plan u l wires_now ms) (sym e) (subst (λ (l : List ℕ). UsesSuit d plan u kinds l ms) (sym f) h)

module _ (a b e : PlainCircuit) (plan : PlainPlan) (u : Uses) (s : Sizes) (w : ShownWires) (c : Control) (at : List ℕ) (before drivers : List (Keyed Driver)) where
  pub drivers_made : (kinds : List Kind) (wires active commits numbers clocks : List ℕ) → kinds ≡ w.wires.kinds → wires ≡ w.wires.values → active ≡ c.activity.active → commits ≡ c.outcome.commits → numbers ≡ at → clocks ≡ s.clocks
      → EachTells a b (match_shown w.own.clock) s.longest at → before ≡ [] → UsesDriven b e plan u kinds wires (plan_times plan active commits numbers clocks) before drivers → DriversAdded a e plan u s w c drivers
  drivers_made kinds wires active commits numbers clocks k v x y z t h none driven = record {
    grows = grows_then a b e h.grows driven.grows;
    at = at;
    long = h.long;
    tells = λ i less. shows_later b e (slice_index at i) 1 (match_shown w.own.clock i) driven.grows (h.each i (let long = h.long in omega (arith, less, long)));
    from = b;
    before = before;
    none_before = none;
    driven =
        subst (λ (l : List Kind). UsesDriven b e plan u l w.wires.values (plan_times plan c.activity.active c.outcome.commits at s.clocks) before drivers) k
        (subst (λ (l : List ℕ). UsesDriven b e plan u kinds l (plan_times plan c.activity.active c.outcome.commits at s.clocks) before drivers) v
        (subst (λ (l : List ℕ). UsesDriven b e plan u kinds wires (plan_times plan l c.outcome.commits at s.clocks) before drivers) x
        (subst (λ (l : List ℕ). UsesDriven b e plan u kinds wires (plan_times plan active l at s.clocks) before drivers) y
        (subst (λ (l : List ℕ). UsesDriven b e plan u kinds wires (plan_times plan active commits l s.clocks) before drivers) z
        (subst (λ (l : List ℕ). UsesDriven b e plan u kinds wires (plan_times plan active commits numbers l) before drivers) t driven)))));
  }

-- What slices hold.

pub memories_as : (table table_now : List MemEntry) (ms ms_now : List MemoryPorts) → table_now ≡ table → ms_now ≡ ms → AreMemoryPorts table_now ms → AreMemoryPorts table ms_now
memories_as table table_now ms ms_now e f h = subst (λ (l : List MemoryPorts). AreMemoryPorts table l) (sym f) (subst (λ (l : List MemEntry). AreMemoryPorts l ms) e h)

pub fits_as : (lengths now : List ℕ) (width own : ℕ) → now ≡ lengths → own ≡ width → AllByRecursion (λ n. (1 ≤ n) × (n ≤ 2 ^ width)) lengths → AllByRecursion (λ n. (1 ≤ n) × (n ≤ 2 ^ own)) now
fits_as lengths now width own e f h =
    subst (λ (l : List ℕ). AllByRecursion (λ n. (1 ≤ n) × (n ≤ 2 ^ own)) l) (sym e) (subst (λ (v : ℕ). AllByRecursion (λ n. (1 ≤ n) × (n ≤ 2 ^ v)) lengths) (sym f) h)

pub ways_as : (states : List State) (kinds : List Kind) (widths : List ℕ) → widths ≡ map width_of kinds → AllByRecursion (λ st. FitsThread (length states) (length kinds) st.next) states
    → AllByRecursion (λ st. FitsThread (length states) (length widths) st.next) states
ways_as states kinds widths e h =
    subst (λ (n : ℕ). AllByRecursion (λ st. FitsThread (length states) n st.next) states) (sym (ap (λ (l : List ℕ). length l) e ∙ length-map kinds width_of)) h
