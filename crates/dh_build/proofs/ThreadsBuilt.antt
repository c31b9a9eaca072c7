-- A net that was built by a graph of one group is the net of its plan.
use Rattle.std.proofs.Common.{◌≡◌, ℕ, Bool, true, false, if◌then◌else◌, List, [], ◌∷◌, length, refl, sym, subst, ◌∙◌}
use Rattle.std.specs.Prelude.{◌==◌, slice_index, slice_set}
use Rattle.std.proofs.lemmas.List.{length-set}
use Rattle.dh_value.specs.declared.kinds.Kind.{Kind}
use Rattle.dh_net.specs.Valid.{IsValid}
use Rattle.dh_net.specs.declared.nets.Net.{Net}
use Rattle.dh_plan.specs.declared.graphs.Graph.{Graph}
use Rattle.dh_plan.specs.declared.graphs.Group.{Group}
use Rattle.dh_plan.specs.BoundPorts.{Uses}
use Rattle.dh_plan.specs.PlainPlans.{PlainPlan}
use Rattle.dh_plan.specs.PlanRuns.{flag_holds, counted_up}
use Rattle.dh_plan.specs.SeenGraphs.{IsGraphOf}
use Rattle.dh_plan.specs.Ways.{GraphWay, to_state, by_flag, by_count, to_fork, to_end, resolve}
use Rattle.dh_lower.specs.NetOfPlan.{IsNetOf}
use Rattle.dh_control.specs.ThreadHolds.{holds_thread, next_wires}
use Rattle.dh_control.proofs.ThreadNets.{thread_net}
use Rattle.dh_build.specs.declared.building.Sizes.{Sizes}
use Rattle.dh_build.specs.BuiltNets.{IsBuilt, making_of, values_from, wires_of_control}
use Rattle.dh_build.specs.BuiltParts.{AreSizes, CanMakeNet, AreNetRegisters, net_widths}
use Rattle.dh_build.proofs.NetWired.{net_wired}
use Rattle.dh_build.proofs.OneGroup.{one_group}

-- a way keeps the number of registers
pub resolve_long : (kinds : List Kind) (w : GraphWay) (registers : List ℕ) → length (resolve kinds w registers).registers ≡ length registers
resolve_long kinds (to_state state) registers = refl
resolve_long kinds (by_flag flag w v) registers = by (flag_holds registers flag) (resolve_long kinds w registers) (resolve_long kinds v registers)
  where
    by : (t : Bool) → length (resolve kinds w registers).registers ≡ length registers → length (resolve kinds v registers).registers ≡ length registers
        → length (if t then resolve kinds w registers else resolve kinds v registers).registers ≡ length registers
    by true p q = p
    by false p q = q
resolve_long kinds (by_count counter last w v) registers =
    by (slice_index registers counter == last) (resolve_long kinds v (slice_set registers counter 0) ∙ length-set registers counter 0)
    (resolve_long kinds w (counted_up kinds counter registers) ∙ length-set registers counter _)
  where
    by : (t : Bool) → length (resolve kinds v (slice_set registers counter 0)).registers ≡ length registers → length (resolve kinds w (counted_up kinds counter registers)).registers ≡ length registers
        → length (if t then resolve kinds v (slice_set registers counter 0) else resolve kinds w (counted_up kinds counter registers)).registers ≡ length registers
    by true p q = p
    by false p q = q
resolve_long kinds (to_fork fork ws) registers = refl
resolve_long kinds to_end registers = refl

module _ (plan : PlainPlan) (u : Uses) (g : Graph) (group : Group) (s : Sizes) (net : Net) (graph : IsGraphOf plan g) (one : g.groups.items ≡ group ∷ []) (can : CanMakeNet plan u g.states.items) (sizes : AreSizes plan (length g.states.items) s)
    (built : IsBuilt plan u g.states.items group.first s net) (valid : IsValid net) where
  pub net_of_thread : IsNetOf (making_of plan graph.flow u s built.made_of.shown.wires) net (holds_thread (length graph.flow.states) (length plan.registers))
  net_of_thread =
      let thread = one_group plan g group graph one in
      thread_net (making_of plan graph.flow u s built.made_of.shown.wires) net (wires_of_control built.made_of)
      (net_wired built.start built.d plan graph.flow u g.states.items s built.made_of net
      (record {
        over = built.over;
        sizes = sizes;
        can = can;
        parts = built.parts;
        settles = built.settles;
        one_thread = thread.one_thread;
        of_making = record { blocks_are = refl; lengths_are = refl; widths_are = sym sizes.widths_are; state_blocks_are = thread.blocks_are; ways_are = thread.ways_are };
        valid = valid;
        table_is = built.table_is;
        cells_are = built.cells_are;
        fault_names = built.fault_names;
        registers =
            subst (λ (l : List ℕ). AreNetRegisters (net_widths s.clock_width s.state_width s.widths) l (next_wires (wires_of_control built.made_of)) net.registers)
            (λ i. values_from plan (thread.count i) (thread.first_is i)) built.registers;
        drivers = built.drivers;
        tick_is = built.tick_is;
        done_is = built.done_is;
        fault_is = built.fault_is;
      }))
