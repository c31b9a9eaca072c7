-- Drivers of all users of a plan's ports, by wires: a driver for each user, in order, under the number of its port.
use Rattle.std.specs.Prelude.{◌≡◌, ℕ, ◌<◌, List, [], ◌∷◌, ◌++◌, length, slice_get, slice_index, slice_index_or, Some}
use Rattle.dh_value.specs.declared.kinds.Kind.{Kind}
use Rattle.dh_net.specs.declared.nets.Driver.{Driver}
use Rattle.dh_plan.specs.declared.operations.Operation.{Operation}
use Rattle.dh_plan.specs.declared.operations.Reach.{Reach}
use Rattle.dh_plan.specs.BoundPorts.{Uses}
use Rattle.dh_plan.specs.PlainPlans.{PlainPlan, operations_in}
use Rattle.dh_plan.specs.SoundPlans.{use_in}
use Rattle.dh_cells.specs.PlainCircuits.{PlainCircuit}
use Rattle.dh_cells.specs.Settled.{Grows}
use Rattle.dh_lower.specs.PortUsers.{User}
use Rattle.dh_datapath.specs.BlockWires.{part_in}
use Rattle.dh_control.specs.declared.driving.MemoryPorts.{MemoryPorts}
use Rattle.dh_control.specs.declared.driving.Times.{Times}
use Rattle.dh_control.specs.declared.gathering.Keyed.{Keyed}
use Rattle.dh_control.specs.BlockUses.{times_at}
use Rattle.dh_control.specs.KeyedItems.{items_picked}
use Rattle.dh_control.specs.PlanUsers.{blocks_users}
use Rattle.dh_control.specs.UseWires.{DrivesUse, UseSuits}
use Rattle.dh_build.specs.MemoryTables.{row_bits_of}

-- of the operations of each block the wires of their times: `at` has a wire for each clock of a step
abbrev pub plan_times : PlainPlan → (active commits at clocks : List ℕ) → (block : ℕ) → ℕ → Times
plan_times plan active commits at clocks block = times_at (slice_index active block) (slice_index commits block) at (part_in plan clocks block)

-- what each operation reads or writes can be driven
abbrev pub UsesSuit : PlainCircuit → PlainPlan → Uses → List Kind → (wires : List ℕ) → List MemoryPorts → Type 0
UsesSuit d plan u kinds wires ms =
    (block i : ℕ) (o : Operation) → slice_get (operations_in plan block) i ≡ Some o → UseSuits d kinds wires ms (slice_index_or (part_in plan u.ports block) i []) o

-- a driver asks for what a user of a port does
pub record DrivesUser (d : PlainCircuit) (plan : PlainPlan) (kinds : List Kind) (wires : List ℕ) (times : ℕ → ℕ → Times) (user : User) (driver : Driver) : Type 0 where
  pub operation : Operation
  pub there : slice_get (operations_in plan user.block) user.place ≡ Some operation
  pub reach : Reach
  pub uses : use_in operation.form ≡ Some reach
  pub drive : DrivesUse d kinds wires (times user.block user.place) operation (row_bits_of plan.table reach.memory) user.bank driver

-- for each user a driver, under the same number
abbrev pub DriveUsers : PlainCircuit → PlainPlan → List Kind → (wires : List ℕ) → (times : ℕ → ℕ → Times) → List (Keyed User) → List (Keyed Driver) → Type 0
DriveUsers d plan kinds wires times [] [] = Unit {0}
DriveUsers d plan kinds wires times [] (e ∷ es) = ⊥
DriveUsers d plan kinds wires times (v ∷ vs) [] = ⊥
DriveUsers d plan kinds wires times (v ∷ vs) (e ∷ es) = ((e.key ≡ v.key) × DrivesUser d plan kinds wires times v.item e.item) × DriveUsers d plan kinds wires times vs es

-- drivers were added, behind those that were there, for all users of a plan's ports
pub record UsesDriven (old new : PlainCircuit) (plan : PlainPlan) (u : Uses) (kinds : List Kind) (wires : List ℕ) (times : ℕ → ℕ → Times) (before after : List (Keyed Driver)) : Type 0 where
  pub grows : Grows old new
  pub added : List (Keyed Driver)
  pub behind : after ≡ before ++ added
  pub drive : DriveUsers new plan kinds wires times (blocks_users plan u 0 plan.blocks) added

-- the drivers of each port below a count
pub record AreListed (count : ℕ) (entries : List (Keyed Driver)) (lists : List (List Driver)) : Type 0 where
  pub long : length lists ≡ count
  pub each : (port : ℕ) → port < count → slice_get lists port ≡ Some (items_picked port entries)
