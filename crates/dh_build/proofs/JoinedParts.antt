-- A net put together of its parts.
use Rattle.std.proofs.Common.{◌≡◌, ℕ, suc, ◌≤◌, List, [], ◌∷◌, length, sym, ap, subst, ◌∙◌, arith}
use Rattle.std.specs.Prelude.{replicate}
use Rattle.std.specs.List.{AllByRecursion}
use Rattle.std.proofs.lemmas.List.{length-replicate}
use Rattle.dh_tree.specs.Shapes.{IsMemory, IsProgramTable}
use Rattle.dh_tree.specs.Tables.{elements_in, most_elements}
use Rattle.dh_tree.specs.declared.tables.MemEntry.{MemEntry}
use Rattle.dh_value.specs.declared.kinds.Kind.{Kind}
use Rattle.dh_extents.specs.Extents.{IsSmallMemory}
use Rattle.dh_plan.specs.Ways.{GraphWay, resolve}
use Rattle.dh_net.specs.declared.nets.Net.{Net}
use Rattle.dh_net.specs.declared.nets.Register.{Register}
use Rattle.dh_net.specs.declared.nets.Driver.{Driver}
use Rattle.dh_net.specs.BankPorts.{ports_of}
use Rattle.dh_plan.specs.declared.graphs.Decision.{Decision}
use Rattle.dh_plan.specs.declared.graphs.State.{State}
use Rattle.dh_plan.specs.BoundPorts.{Uses}
use Rattle.dh_plan.specs.PlainPlans.{PlainPlan}
use Rattle.dh_cells.specs.PlainCircuits.{PlainCircuit}
use Rattle.dh_control.specs.ThreadHolds.{next_wires}
use Rattle.dh_control.specs.WayMoves.{way_of_decision}
use Rattle.dh_build.specs.declared.building.Sizes.{Sizes}
use Rattle.dh_build.specs.declared.joining.Joints.{Joints}
use Rattle.dh_build.specs.BuiltNets.{IsBuilt, values_from, wires_of_control}
use Rattle.dh_build.specs.BuiltParts.{IsOver, AreNetRegisters, net_widths}
use Rattle.dh_build.specs.DrivenUsers.{AreListed}
use Rattle.dh_build.specs.NetJoints.{JointsAdded, IsNetOfCircuit}
use Rattle.dh_build.proofs.ThreadsBuilt.{resolve_long}

small_ones : (es : List MemEntry) → AllByRecursion IsMemory es → elements_in es ≤ most_elements → AllByRecursion IsSmallMemory es
small_ones [] h few = tt
small_ones (e ∷ es) h few = (record { memory = h.0; few = omega (arith, few) }, small_ones es h.1 (omega (arith, few)))

pub small_memories : (table now : List MemEntry) → now ≡ table → IsProgramTable table → AllByRecursion IsSmallMemory now
small_memories table now is h = subst (λ (l : List MemEntry). AllByRecursion IsSmallMemory l) (sym is) (small_ones table h.entries h.elements)

pub initials_long : (ks : List Kind) (way : GraphWay) (n a b : ℕ) (further widths initials : List ℕ) → initials ≡ 0 ∷ 0 ∷ 0 ∷ n ∷ (resolve ks way (replicate (length ks) 0)).registers → widths ≡ a ∷ 1 ∷ 32 ∷ b ∷ further
    → length further ≡ length ks → length initials ≡ length widths
initials_long ks way n a b further widths initials e f same =
    ap (λ (l : List ℕ). length l) e
    ∙ (ap (λ (m : ℕ). suc (suc (suc (suc m)))) (resolve_long ks way (replicate (length ks) 0) ∙ (length-replicate (length ks) 0 ∙ sym same)) ∙ sym (ap (λ (l : List ℕ). length l) f))

pub net_joined : (plan : PlainPlan) (u : Uses) (states : List State) (first : Decision) (s : Sizes) (start d : PlainCircuit) (j : Joints) (net : Net) → IsOver start plan s → JointsAdded start d plan u states first s j → IsNetOfCircuit d j net
    → IsBuilt plan u states first s net
net_joined plan u states first s start d j net over h g = record {
  start = start;
  d = d;
  made_of = h.made_of;
  over = over;
  parts = h.parts;
  suit = g.suit;
  settles = g.settles;
  shifts = g.shifts;
  table_is = g.table_is;
  cells_are = g.cells_are;
  fault_names = g.faults_are ∙ h.joints.fault_names;
  registers =
      subst (λ (l : List Register). AreNetRegisters (net_widths s.clock_width s.state_width s.widths) (values_from plan (length states) (way_of_decision first)) (next_wires (wires_of_control h.made_of)) l) (sym g.registers_are) h.joints.registers;
  drivers = subst (λ (l : List (List Driver)). AreListed (length (ports_of plan.table)) h.made_of.drivers l) (sym g.drivers_are) h.joints.drivers;
  tick_is = g.tick_is ∙ h.joints.tick_is;
  done_is = g.done_is ∙ h.joints.done_is;
  fault_is = g.fault_is ∙ h.joints.fault_is;
}
