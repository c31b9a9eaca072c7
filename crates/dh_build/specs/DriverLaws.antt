-- What is known of the drivers of a net that is made of a plan, and what they are for.
use Rattle.std.specs.Prelude.{◌≡◌, ℕ, ◌<◌, List, [], length, map, slice_get, slice_index, Some, ◌^◌}
use Rattle.std.specs.List.{AllByRecursion}
use Rattle.dh_value.specs.Words.{width_of}
use Rattle.dh_net.specs.BankPorts.{ports_of}
use Rattle.dh_net.specs.declared.nets.Driver.{Driver}
use Rattle.dh_net.specs.declared.ports.Port.{Port}
use Rattle.dh_plan.specs.BoundPorts.{Uses, ArePorts}
use Rattle.dh_plan.specs.LegalSchedules.{Timing}
use Rattle.dh_plan.specs.PlainPlans.{PlainPlan, operation_count}
use Rattle.dh_plan.specs.SoundPlans.{IsFormed, IsAddressed}
use Rattle.dh_cells.specs.PlainCircuits.{PlainCircuit}
use Rattle.dh_cells.specs.Settled.{Signals, IsSettled, Shows}
use Rattle.dh_cells.specs.ShownValues.{match_shown}
use Rattle.dh_lower.specs.PortUsers.{Moment, DriveFor}
use Rattle.dh_lower.specs.ShownWords.{block_shown}
use Rattle.dh_datapath.specs.declared.blocks.PlanWires.{PlanWires}
use Rattle.dh_datapath.specs.BlockWires.{layout_of, ShowsPlan}
use Rattle.dh_control.specs.declared.driving.MemoryPorts.{MemoryPorts}
use Rattle.dh_control.specs.declared.gathering.Keyed.{Keyed}
use Rattle.dh_control.specs.AllBlocks.{ChecksSuit, SetsSuit}
use Rattle.dh_control.specs.PlanUsers.{users_of}
use Rattle.dh_control.specs.ThreadHolds.{ControlWires}
use Rattle.dh_control.specs.WiredNets.{MomentShown}
use Rattle.dh_build.specs.DrivenUsers.{AreListed, UsesDriven, UsesSuit, plan_times}
use Rattle.dh_build.specs.MemoryTables.{AreMemoryPorts}

-- The drivers of a circuit's ports were made of a plan: `at` has a wire for each clock of a step.
pub record DriversMade (old d : PlainCircuit) (plan : PlainPlan) (u : Uses) (t : Timing) (w : PlanWires) (c : ControlWires) (at : List ℕ) (before entries : List (Keyed Driver)) (lists : List (List Driver)) : Type 0 where
  pub formed : IsFormed plan
  pub addressed : IsAddressed plan
  pub ports : ArePorts plan u
  pub shows : ShowsPlan d plan u w
  pub all_clocks : length t.clocks ≡ operation_count plan
  pub early : AllByRecursion (λ n. n < length at) t.clocks
  pub tells : (i : ℕ) → i < length at → Shows d (slice_index at i) 1 (match_shown c.clock i)
  pub none_before : before ≡ []
  pub driven : UsesDriven old d plan u w.kinds w.values (plan_times plan c.active c.commits at t.clocks) before entries
  pub listed : AreListed (length (ports_of plan.table)) entries lists

-- at each moment that the control shows they ask for what the users of their ports do
abbrev pub DriversServeUsers : Type 0
DriversServeUsers =
    (old d : PlainCircuit) (plan : PlainPlan) (u : Uses) (t : Timing) (w : PlanWires) (c : ControlWires) (at : List ℕ) (before entries : List (Keyed Driver)) (lists : List (List Driver))
    → DriversMade old d plan u t w c at before entries lists → (x : Signals) (m : Moment) → IsSettled d x → MomentShown (length plan.blocks) c x m
    → (q : ℕ) (ds : List Driver) (p : Port) → slice_get lists q ≡ Some ds → slice_get (ports_of plan.table) q ≡ Some p
    → DriveFor plan t (λ block. block_shown plan (layout_of plan w) block x.wires) m p x.wires ds (users_of plan u q)

-- wires of a plan's values suit what control and drivers ask of them
pub record PlanSuits (d : PlainCircuit) (plan : PlainPlan) (u : Uses) (w : PlanWires) (ms : List MemoryPorts) : Type 0 where
  pub sets : SetsSuit d (map width_of plan.registers) w.values plan.blocks
  pub checks : ChecksSuit d w.values plan.blocks
  pub uses : UsesSuit d plan u w.kinds w.values ms

-- wires that show an addressed plan do; the number of a fault from 1 has 32 bits
abbrev pub ShownPlansSuit : Type 0
ShownPlansSuit =
    (d : PlainCircuit) (plan : PlainPlan) (u : Uses) (w : PlanWires) (ms : List MemoryPorts) → ShowsPlan d plan u w → IsFormed plan → IsAddressed plan → ArePorts plan u
    → length plan.faults < 2 ^ 32 → AreMemoryPorts plan.table ms → PlanSuits d plan u w ms
