-- A net that is put together of its parts is wired as its plan asks.
use Rattle.std.proofs.Common.{◌≡◌, ℕ, zero, suc, ◌+◌, ◌<◌, ◌≤◌, ◌^◌, Some, List, [], ◌∷◌, length, drop, get_or, refl, sym, ap, subst, ◌∙◌, arith}
use Rattle.std.specs.Prelude.{slice_get, slice_index}
use Rattle.std.specs.List.{AllByRecursion}
use Rattle.std.proofs.lemmas.List.{ext_get_or, get_or-map, get_or-drop, length-map}
use Rattle.dh_tree.specs.declared.tables.MemEntry.{MemEntry}
use Rattle.dh_net.specs.BankPorts.{ports_of}
use Rattle.dh_net.specs.Clock.{IsValuation}
use Rattle.dh_net.specs.Clock as clock
use Rattle.dh_net.specs.Laws.{FitsNet}
use Rattle.dh_net.specs.declared.nets.Net.{Net}
use Rattle.dh_plan.specs.declared.graphs.State.{State}
use Rattle.dh_plan.specs.declared.operations.Operation.{Operation}
use Rattle.dh_plan.specs.declared.operations.PlanBlock.{PlanBlock}
use Rattle.dh_plan.specs.BoundPorts.{Uses}
use Rattle.dh_plan.specs.Ordered.{operation_takes}
use Rattle.dh_plan.specs.PlainPlans.{PlainPlan, first_in, operations_in, block_operations}
use Rattle.dh_plan.specs.Ways.{Flow}
use Rattle.dh_plan.proofs.ValuesAlike.{all_map}
use Rattle.dh_cells.specs.PlainCircuits.{PlainCircuit}
use Rattle.dh_cells.specs.Settled.{Signals, IsSettled, Grows, signals, shown}
use Rattle.dh_cells.proofs.CellsAppended.{settled_fewer, grows_then}
use Rattle.dh_lower.specs.NetOfPlan.{Making, words_of}
use Rattle.dh_datapath.specs.declared.blocks.PlanWires.{PlanWires}
use Rattle.dh_datapath.specs.BlockWires.{ShowsPlan}
use Rattle.dh_datapath.specs.ShownNumbers.{IsShownNumber}
use Rattle.dh_datapath.proofs.PlanWiresKept.{plan_later, taken_are_shown}
use Rattle.dh_datapath.proofs.ShownAtClocks.{settled_in_net, words_in_net}
use Rattle.dh_control.specs.AllBlocks.{AreBlockWords}
use Rattle.dh_control.specs.ControlsWhole.{OwnShown}
use Rattle.dh_control.specs.SizedWires.{shown_all}
use Rattle.dh_control.specs.ThreadHolds.{own_registers, shown_blocks}
use Rattle.dh_control.specs.ValuesShown.{IsShownValue}
use Rattle.dh_control.specs.WiredNets.{IsWired}
use Rattle.dh_control.proofs.UsersApart.{users_listed}
use Rattle.dh_build.specs.declared.building.Parts.{Parts}
use Rattle.dh_build.specs.declared.building.Sizes.{Sizes}
use Rattle.dh_build.specs.BuiltNets.{making_of, wires_of_control, NetMade}
use Rattle.dh_build.proofs.DrivesWired.{drives_wired}

at_most : (ns : List ℕ) (b most : ℕ) → AllByRecursion (λ n. (1 ≤ n) × (n ≤ most)) ns → slice_index ns b ≤ most
at_most [] b most h = omega arith
at_most (n ∷ ns) zero most h = h.0.1
at_most (n ∷ ns) (suc b) most h = at_most ns b most h.1

module _ (start d : PlainCircuit) (plan : PlainPlan) (flow : Flow) (u : Uses) (states : List State) (s : Sizes) (p : Parts) (net : Net) (h : NetMade start d plan flow u states s p net) where
  abbrev w : PlanWires
  w = p.shown.wires

  abbrev k : Making
  k = making_of plan flow u s p.shown.wires

  abbrev first : PlainCircuit
  first = h.parts.first

  behind_first : Grows first d
  behind_first = grows_then first h.parts.second d h.parts.control_made.grows h.parts.drivers_added.grows

  shows : ShowsPlan first plan u w
  shows = h.parts.shown_added.plan_shown

  same_table : net.table ≡ plan.table
  same_table = h.table_is ∙ (h.parts.grows.table ∙ h.over.table)

  -- the words of all values

  each_operation : (x : Signals) (block from : ℕ) (os : List Operation) → ((i n : ℕ) (o : Operation) → n ≡ from + i → slice_get os i ≡ Some o → slice_get (operations_in plan block) n ≡ Some o)
      → AllByRecursion (λ (o : Operation). AllByRecursion (IsShownValue (first_in plan block) (words_of k x.wires block) w.kinds w.values x) (operation_takes o)) os
  each_operation x block from [] at = tt
  each_operation x block from (o ∷ os) at = (
    all_map (IsShownNumber first plan w block) (IsShownValue (first_in plan block) (words_of k x.wires block) w.kinds w.values x) (operation_takes o) (λ number shown_is. shown_is.word x)
        (taken_are_shown first plan u w shows h.can.formed block from o (at 0 from o (let n : from ≡ from + 0 = omega arith in n) refl)),
    each_operation x block (suc from) os (λ i n q is there. at (suc i) n q (let same : n ≡ from + suc i = omega (arith, is) in same) there),
  )

  each_block : (x : Signals) (from : ℕ) (bs : List PlanBlock) → ((i n : ℕ) (b : PlanBlock) → n ≡ from + i → slice_get bs i ≡ Some b → slice_get plan.blocks n ≡ Some b) → AreBlockWords (shown_blocks k x) w.kinds w.values x from bs
  each_block x from [] at = tt
  each_block x from (b ∷ bs) at =
      let here : slice_get plan.blocks from ≡ Some b = at 0 from b (let n : from ≡ from + 0 = omega arith in n) refl in
      let own : operations_in plan from ≡ b.operations = ap block_operations here in (
        record {
          each =
              each_operation x from 0 b.operations
              (λ i n o is there. let same : i ≡ n = omega (arith, is) in ap (λ (l : List Operation). slice_get l n) own ∙ subst (λ (j : ℕ). slice_get b.operations j ≡ Some o) same there);
        },
        each_block x (suc from) bs (λ i n c is there. at (suc i) n c (let same : n ≡ from + suc i = omega (arith, is) in same) there),
      )

  block_words : (x : Signals) → AreBlockWords (shown_blocks k x) w.kinds w.values x 0 plan.blocks
  block_words x = each_block x 0 plan.blocks (λ i n b is there. let same : i ≡ n = omega (arith, is) in subst (λ (j : ℕ). slice_get plan.blocks j ≡ Some b) same there)

  -- a valuation of a state that fits

  module _ (st : clock.State) (wires : List ℕ) (fits : FitsNet net st) (v : IsValuation net.table net.cells st.registers st.held wires) where
    abbrev x : Signals
    x = signals st.registers st.held wires

    settled : IsSettled d (signals st.registers st.held wires)
    settled = settled_in_net net st wires d (sym h.table_is) (h.parts.grows.widths ∙ (h.over.widths ∙ sym h.registers.widths_are)) (sym h.cells_are) h.settles fits v

    settled_first : IsSettled first (signals st.registers st.held wires)
    settled_first = settled_fewer first d (signals st.registers st.held wires) behind_first settled

    register_at : (r : ℕ) → r < length plan.registers → get_or (shown_all (signals st.registers st.held wires) w.registers.wires) r 0 ≡ get_or (drop own_registers st.registers) r 0
    register_at r less =
        let long = shows.registers.long in
        get_or-map (λ (wire : ℕ). shown (signals st.registers st.held wires) wire) w.registers.wires r 0 0 (omega (arith, less, long))
        ∙ ((shows.registers.each r less).is (signals st.registers st.held wires) settled_first
        ∙ (ap (λ (n : ℕ). slice_index st.registers (n + r)) h.parts.shown_added.offset_is ∙ sym (get_or-drop own_registers st.registers r 0)))

    own_shown : length (drop own_registers st.registers) ≡ length plan.registers → OwnShown p.shown.own w.registers.wires (signals st.registers st.held wires)
    own_shown all =
        let own = h.parts.shown_added.own in
        let long = shows.registers.long in
        let mapped = length-map w.registers.wires (λ (wire : ℕ). shown (signals st.registers st.held wires) wire) in
        record {
          clock_is = own.clock.is (signals st.registers st.held wires) settled_first;
          tick_is = own.tick.is (signals st.registers st.held wires) settled_first;
          fault_is = own.fault.is (signals st.registers st.held wires) settled_first;
          state_is = own.state.is (signals st.registers st.held wires) settled_first;
          registers_are =
              ext_get_or 0 (shown_all (signals st.registers st.held wires) w.registers.wires) (drop own_registers st.registers) (omega (arith, all, long, mapped)) (λ r less. register_at r (omega (arith, less, mapped, long)));
        }

  early : AllByRecursion (λ n. n < length h.parts.drivers_added.at) s.clocks
  early = subst (λ (m : ℕ). AllByRecursion (λ n. n < m) s.clocks) (sym h.parts.drivers_added.long) h.sizes.early

  pub net_wired : IsWired k net (wires_of_control p)
  net_wired = record {
    valid = h.valid;
    table = same_table;
    fault_names = h.fault_names;
    users = users_listed plan u h.can.formed;
    first_straight = h.one_thread.first;
    straight = h.one_thread.states;
    blocks = h.one_thread.blocks;
    wide = λ b. subst (λ (n : ℕ). slice_index s.lengths b ≤ 2 ^ n) (sym h.parts.shown_added.clock_width_is) (at_most s.lengths b (2 ^ s.clock_width) h.sizes.lengths_fit);
    nexts_are = h.registers.nexts_are;
    initials_are = h.registers.initials_are;
    tick_is = h.tick_is;
    done_is = h.done_is;
    fault_is = h.fault_is;
    control = λ st wires fits v all.
        h.parts.control_made.shows k w.kinds (signals st.registers st.held wires) (settled_fewer h.parts.second d (signals st.registers st.held wires) h.parts.drivers_added.grows (settled st wires fits v)) h.of_making
        (own_shown st wires fits v all) (block_words (signals st.registers st.held wires));
    words = λ st wires fits v block.
        words_in_net first plan u w shows st.registers st.held wires (drop own_registers st.registers) (settled_first st wires fits v) (ap (λ (n : ℕ). drop n st.registers) h.parts.shown_added.offset_is) block;
    drives = λ st wires m fits v moment q ds port list_at port_at.
        drives_wired d plan u (record { clocks = s.clocks; lengths = s.lengths }) w (wires_of_control p) h.parts.drivers_added.at h.can.formed h.can.addressed h.can.ports (plan_later first d plan u w behind_first shows)
        h.sizes.all_clocks early h.parts.drivers_added.tells (signals st.registers st.held wires) (settled st wires fits v) m moment q h.parts.drivers_added.from d h.parts.drivers_added.before p.drivers net.drivers
        h.parts.drivers_added.none_before h.parts.drivers_added.driven h.drivers ds port list_at (subst (λ (t : List MemEntry). slice_get (ports_of t) q ≡ Some port) same_table port_at);
  }
