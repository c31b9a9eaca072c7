-- A net that is put together of its parts, and of which plan it is then the net.
use Rattle.std.specs.Prelude.{◌≡◌, ℕ, ◌<◌, List, ◌∷◌, length, slice_get, slice_index, Some}
use Rattle.dh_net.specs.BankPorts.{ports_of}
use Rattle.dh_net.specs.Valid.{IsValid}
use Rattle.dh_net.specs.declared.nets.Net.{Net}
use Rattle.dh_plan.specs.declared.graphs.Decision.{Decision}
use Rattle.dh_plan.specs.declared.graphs.State.{State}
use Rattle.dh_plan.specs.BoundPorts.{Uses}
use Rattle.dh_plan.specs.PlainPlans.{PlainPlan}
use Rattle.dh_plan.specs.PlanRuns.{first_registers}
use Rattle.dh_plan.specs.Ways.{Flow, GraphStop, GraphWay, resolve}
use Rattle.dh_cells.specs.NarrowShifts.{HasNarrowShifts}
use Rattle.dh_cells.specs.PlainCircuits.{PlainCircuit, SuitRegisters}
use Rattle.dh_cells.specs.Settled.{ValuationSettles}
use Rattle.dh_lower.specs.NetOfPlan.{Making}
use Rattle.dh_datapath.specs.declared.blocks.PlanWires.{PlanWires}
use Rattle.dh_datapath.specs.BlockWires.{layout_of}
use Rattle.dh_control.specs.declared.controlling.Control.{Control}
use Rattle.dh_control.specs.ControlsWhole.{AreOfMaking, control_wires}
use Rattle.dh_control.specs.PlanUsers.{users_of}
use Rattle.dh_control.specs.ThreadHolds.{ControlWires, next_wires}
use Rattle.dh_control.specs.WayMoves.{spot_number, way_of_decision}
use Rattle.dh_control.specs.WiredNets.{IsStraight, IsWired}
use Rattle.dh_build.specs.declared.building.Parts.{Parts}
use Rattle.dh_build.specs.declared.building.Sizes.{Sizes}
use Rattle.dh_build.specs.BuiltParts.{net_widths, IsOver, AreSizes, CanMakeNet, PartsAdded, AreNetRegisters}
use Rattle.dh_build.specs.DrivenUsers.{AreListed}

-- of what a net is made
abbrev pub making_of : PlainPlan → Flow → Uses → Sizes → PlanWires → Making
making_of plan flow u s w =
    record { plan = plan; flow = flow; timing = record { clocks = s.clocks; lengths = s.lengths }; uses = u; layout = layout_of plan w; users = users_of plan u }

-- the wires of a net's control
abbrev pub wires_of_control : Parts → ControlWires
wires_of_control p = control_wires p.shown.own p.shown.wires.registers.wires p.control

-- the wires that a net's registers take, by its control
abbrev pub nexts_of : Control → List ℕ
nexts_of c = c.nexts.clock ∷ c.outcome.verdict.commit ∷ c.nexts.fault ∷ slice_index c.results.state 0 ∷ c.results.news

-- where the registers of a net stand first: no clock has passed, and the thread begins by a way
abbrev pub values_from : PlainPlan → (over : ℕ) → GraphWay → List ℕ
values_from plan over way =
    0 ∷ 0 ∷ 0 ∷ spot_number over (resolve plan.registers way (first_registers plan)).spot ∷ (resolve plan.registers way (first_registers plan)).registers

abbrev pub first_values : PlainPlan → Flow → List ℕ
first_values plan flow = values_from plan (length flow.states) flow.first

-- a flow of one thread, over blocks that are there
pub record IsOfOneThread (plan : PlainPlan) (flow : Flow) : Type 0 where
  pub first : IsStraight (length flow.states) flow.first
  pub states : (i : ℕ) (s : GraphStop) → slice_get flow.states i ≡ Some s → IsStraight (length flow.states) s.way
  pub blocks : (i : ℕ) (s : GraphStop) → slice_get flow.states i ≡ Some s → s.block < length plan.blocks

-- the net is put together of parts that were added to a circuit
pub record NetMade (start d : PlainCircuit) (plan : PlainPlan) (flow : Flow) (u : Uses) (states : List State) (s : Sizes) (p : Parts) (net : Net) : Type 0 where
  pub over : IsOver start plan s
  pub sizes : AreSizes plan (length states) s
  pub can : CanMakeNet plan u states
  pub parts : PartsAdded start d plan u states s p
  pub settles : ValuationSettles d
  pub one_thread : IsOfOneThread plan flow
  pub of_making : AreOfMaking (making_of plan flow u s p.shown.wires) s.widths plan.blocks states s.lengths
  pub valid : IsValid net
  pub table_is : net.table ≡ d.table
  pub cells_are : net.cells ≡ d.cells
  pub fault_names : net.faults ≡ plan.faults
  pub registers : AreNetRegisters (net_widths s.clock_width s.state_width s.widths) (first_values plan flow) (next_wires (wires_of_control p)) net.registers
  pub drivers : AreListed (length (ports_of plan.table)) p.drivers net.drivers
  pub tick_is : net.tick ≡ p.shown.own.tick
  pub done_is : net.done ≡ p.control.nexts.done
  pub fault_is : net.fault ≡ p.shown.own.fault

-- then it is wired as its plan asks
abbrev pub MadeNetsAreWired : Type 0
MadeNetsAreWired =
    (start d : PlainCircuit) (plan : PlainPlan) (flow : Flow) (u : Uses) (states : List State) (s : Sizes) (p : Parts) (net : Net)
    → NetMade start d plan flow u states s p net → IsWired (making_of plan flow u s p.shown.wires) net (wires_of_control p)

-- a net was put together of the parts of a plan with these states and sizes, whose thread begins by this decision
pub record IsBuilt (plan : PlainPlan) (u : Uses) (states : List State) (first : Decision) (s : Sizes) (net : Net) : Type 0 where
  pub start : PlainCircuit
  pub d : PlainCircuit
  pub made_of : Parts
  pub over : IsOver start plan s
  pub parts : PartsAdded start d plan u states s made_of
  pub suit : SuitRegisters d
  pub settles : ValuationSettles d
  pub shifts : HasNarrowShifts d.cells
  pub table_is : net.table ≡ d.table
  pub cells_are : net.cells ≡ d.cells
  pub fault_names : net.faults ≡ plan.faults
  pub registers : AreNetRegisters (net_widths s.clock_width s.state_width s.widths) (values_from plan (length states) (way_of_decision first)) (next_wires (wires_of_control made_of)) net.registers
  pub drivers : AreListed (length (ports_of plan.table)) made_of.drivers net.drivers
  pub tick_is : net.tick ≡ made_of.shown.own.tick
  pub done_is : net.done ≡ made_of.control.nexts.done
  pub fault_is : net.fault ≡ made_of.shown.own.fault
