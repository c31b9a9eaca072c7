-- What a net has beside the cells of its circuit, and how both are joined.
use Rattle.std.specs.Prelude.{◌≡◌, ℕ, List, length}
use Rattle.dh_net.specs.BankPorts.{ports_of}
use Rattle.dh_net.specs.declared.nets.Net.{Net}
use Rattle.dh_plan.specs.declared.graphs.Decision.{Decision}
use Rattle.dh_plan.specs.declared.graphs.State.{State}
use Rattle.dh_plan.specs.BoundPorts.{Uses}
use Rattle.dh_plan.specs.PlainPlans.{PlainPlan}
use Rattle.dh_cells.specs.NarrowShifts.{HasNarrowShifts}
use Rattle.dh_cells.specs.PlainCircuits.{PlainCircuit, SuitRegisters}
use Rattle.dh_cells.specs.Settled.{ValuationSettles}
use Rattle.dh_control.specs.WayMoves.{way_of_decision}
use Rattle.dh_build.specs.declared.building.Parts.{Parts}
use Rattle.dh_build.specs.declared.building.Sizes.{Sizes}
use Rattle.dh_build.specs.declared.joining.Joints.{Joints}
use Rattle.dh_build.specs.BuiltNets.{nexts_of, values_from}
use Rattle.dh_build.specs.BuiltParts.{net_widths, AreNetRegisters, PartsAdded}
use Rattle.dh_build.specs.DrivenUsers.{AreListed}

-- what the net of a plan has beside its cells, by the parts that were added to its circuit
pub record AreJoints (plan : PlainPlan) (over : ℕ) (first : Decision) (s : Sizes) (p : Parts) (j : Joints) : Type 0 where
  pub fault_names : j.faults ≡ plan.faults
  pub registers : AreNetRegisters (net_widths s.clock_width s.state_width s.widths) (values_from plan over (way_of_decision first)) (nexts_of p.control) j.registers
  pub drivers : AreListed (length (ports_of plan.table)) p.drivers j.drivers
  pub tick_is : j.tick ≡ p.shown.own.tick
  pub done_is : j.done ≡ p.control.nexts.done
  pub fault_is : j.fault ≡ p.shown.own.fault

-- the parts were added, and it is that
pub record JointsAdded (old new : PlainCircuit) (plan : PlainPlan) (u : Uses) (states : List State) (first : Decision) (s : Sizes) (j : Joints) : Type 0 where
  pub made_of : Parts
  pub parts : PartsAdded old new plan u states s made_of
  pub joints : AreJoints plan (length states) first s made_of j

-- a net of the cells of a circuit, and of this
pub record IsNetOfCircuit (d : PlainCircuit) (j : Joints) (net : Net) : Type 0 where
  pub suit : SuitRegisters d
  pub settles : ValuationSettles d
  pub shifts : HasNarrowShifts d.cells
  pub table_is : net.table ≡ d.table
  pub cells_are : net.cells ≡ d.cells
  pub faults_are : net.faults ≡ j.faults
  pub registers_are : net.registers ≡ j.registers
  pub drivers_are : net.drivers ≡ j.drivers
  pub tick_is : net.tick ≡ j.tick
  pub done_is : net.done ≡ j.done
  pub fault_is : net.fault ≡ j.fault
