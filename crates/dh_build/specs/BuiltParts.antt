-- The parts of a net that is made of a plan of one thread: its sizes, the wires of its registers and of the plan's values,
-- its control, and its drivers.
use Rattle.std.specs.Prelude.{◌≡◌, ℕ, ◌<◌, ◌≤◌, ◌^◌, List, [], ◌∷◌, length, map, slice_index}
use Rattle.std.specs.List.{AllByRecursion}
use Rattle.dh_value.specs.Words.{IsKind, IsWidth, width_of}
use Rattle.dh_net.specs.declared.nets.Driver.{Driver}
use Rattle.dh_net.specs.declared.nets.Register.{Register}
use Rattle.dh_plan.specs.declared.graphs.State.{State}
use Rattle.dh_plan.specs.BoundPorts.{Uses, ArePorts}
use Rattle.dh_plan.specs.PlainPlans.{PlainPlan, operation_count}
use Rattle.dh_plan.specs.SoundPlans.{IsFormed, IsAddressed}
use Rattle.dh_plan.specs.SeenGraphs.{FitsThread}
use Rattle.dh_cells.specs.PlainCircuits.{PlainCircuit}
use Rattle.dh_cells.specs.Settled.{Grows, Shows, AreWires}
use Rattle.dh_cells.specs.ShownValues.{match_shown, register_shown}
use Rattle.dh_datapath.specs.BlockWires.{ShowsPlan}
use Rattle.dh_control.specs.declared.controlling.Control.{Control}
use Rattle.dh_control.specs.declared.controlling.ControlRegisters.{ControlRegisters}
use Rattle.dh_control.specs.declared.gathering.Keyed.{Keyed}
use Rattle.dh_control.specs.ControlsWhole.{ControlMade}
use Rattle.dh_control.specs.ThreadHolds.{own_registers}
use Rattle.dh_control.specs.WayMoves.{HoldsStates}
use Rattle.dh_build.specs.declared.building.Parts.{Parts}
use Rattle.dh_build.specs.declared.building.ShownWires.{ShownWires}
use Rattle.dh_build.specs.declared.building.Sizes.{Sizes}
use Rattle.dh_build.specs.DrivenUsers.{UsesDriven, plan_times}

-- the widths of a net's registers: the clock of the step, the tick, the fault, the state, and those of the plan
abbrev pub net_widths : (clock state : ℕ) → (widths : List ℕ) → List ℕ
net_widths clock state widths = clock ∷ 1 ∷ 32 ∷ state ∷ widths

-- a circuit over the memories of a plan and the registers of its net
pub record IsOver (d : PlainCircuit) (plan : PlainPlan) (s : Sizes) : Type 0 where
  pub table : d.table ≡ plan.table
  pub widths : d.widths ≡ net_widths s.clock_width s.state_width s.widths

-- what the sizes are of a plan with so many states
pub record AreSizes (plan : PlainPlan) (states : ℕ) (s : Sizes) : Type 0 where
  pub widths_are : s.widths ≡ map width_of plan.registers
  pub all_clocks : length s.clocks ≡ operation_count plan
  pub all_lengths : length s.lengths ≡ length plan.blocks
  pub lengths_fit : AllByRecursion (λ n. (1 ≤ n) × (n ≤ 2 ^ s.clock_width)) s.lengths
  pub early : AllByRecursion (λ n. n < s.longest) s.clocks
  pub clock_wide : IsWidth s.clock_width
  pub longest_fits : s.longest ≤ 2 ^ s.clock_width
  pub states_fit : HoldsStates s.state_width states

-- what a plan of one thread has for its net
pub record CanMakeNet (plan : PlainPlan) (u : Uses) (states : List State) : Type 0 where
  pub formed : IsFormed plan
  pub addressed : IsAddressed plan
  pub ports : ArePorts plan u
  pub all_ports : length u.ports ≡ operation_count plan
  pub kinds : AllByRecursion IsKind plan.registers
  pub few_faults : length plan.faults < 2 ^ 32
  pub ways : AllByRecursion (λ st. FitsThread (length states) (length plan.registers) st.next) states

-- wires that show the net's own registers
pub record OwnShows (d : PlainCircuit) (own : ControlRegisters) : Type 0 where
  pub clock : Shows d own.clock own.clock_width (register_shown 0)
  pub tick : Shows d own.tick 1 (register_shown 1)
  pub fault : Shows d own.fault 32 (register_shown 2)
  pub state : Shows d own.state own.state_width (register_shown 3)

pub record OwnAdded (old new : PlainCircuit) (clock_width state_width : ℕ) (own : ControlRegisters) : Type 0 where
  pub grows : Grows old new
  pub clock_width_is : own.clock_width ≡ clock_width
  pub state_width_is : own.state_width ≡ state_width
  pub shows : OwnShows new own

-- wires of the net's registers and of the plan's values were added
pub record ShownAdded (old new : PlainCircuit) (plan : PlainPlan) (u : Uses) (s : Sizes) (w : ShownWires) : Type 0 where
  pub grows : Grows old new
  pub clock_width_is : w.own.clock_width ≡ s.clock_width
  pub state_width_is : w.own.state_width ≡ s.state_width
  pub own : OwnShows new w.own
  pub offset_is : w.wires.registers.offset ≡ own_registers
  pub plan_shown : ShowsPlan new plan u w.wires

-- the control has a wire for each block that tells whether it is active, and one whether its writes are made
pub record IsTimed (d : PlainCircuit) (plan : PlainPlan) (c : Control) : Type 0 where
  pub active : AreWires d c.activity.active 1
  pub active_long : length c.activity.active ≡ length plan.blocks
  pub commits : AreWires d c.outcome.commits 1
  pub commits_long : length c.outcome.commits ≡ length plan.blocks

-- drivers of all that a plan's operations use were added
pub record DriversAdded (old new : PlainCircuit) (plan : PlainPlan) (u : Uses) (s : Sizes) (w : ShownWires) (c : Control) (drivers : List (Keyed Driver)) : Type 0 where
  pub grows : Grows old new
  -- a wire for each clock of a step
  pub at : List ℕ
  pub long : length at ≡ s.longest
  pub tells : (i : ℕ) → i < length at → Shows new (slice_index at i) 1 (match_shown w.own.clock i)
  pub from : PlainCircuit
  pub before : List (Keyed Driver)
  pub none_before : before ≡ []
  pub driven : UsesDriven from new plan u w.wires.kinds w.wires.values (plan_times plan c.activity.active c.outcome.commits at s.clocks) before drivers

-- all parts were added
pub record PartsAdded (old new : PlainCircuit) (plan : PlainPlan) (u : Uses) (states : List State) (s : Sizes) (p : Parts) : Type 0 where
  pub grows : Grows old new
  pub first : PlainCircuit
  pub second : PlainCircuit
  pub shown_added : ShownAdded old first plan u s p.shown
  pub control_made : ControlMade first second p.shown.own s.widths p.shown.wires.registers.wires p.shown.wires.values plan.blocks states s.lengths p.control
  pub drivers_added : DriversAdded second new plan u s p.shown p.control p.drivers

-- registers of these widths, first values and next wires
pub record AreNetRegisters (widths initials nexts : List ℕ) (registers : List Register) : Type 0 where
  pub widths_are : map (λ r. r.width) registers ≡ widths
  pub initials_are : map (λ r. r.initial) registers ≡ initials
  pub nexts_are : map (λ r. r.next) registers ≡ nexts
