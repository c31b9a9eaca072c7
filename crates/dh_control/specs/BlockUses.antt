-- Drivers of all that the operations of a block read or write, in order of operations and banks.
use Rattle.std.specs.Prelude.{◌≡◌, ℕ, suc, List, [], ◌∷◌, ◌++◌, slice_index, slice_index_or, Option, Some, None}
use Rattle.dh_value.specs.declared.kinds.Kind.{Kind}
use Rattle.dh_net.specs.declared.nets.Driver.{Driver}
use Rattle.dh_plan.specs.declared.operations.Operation.{Operation}
use Rattle.dh_plan.specs.declared.operations.Reach.{Reach}
use Rattle.dh_plan.specs.SoundPlans.{use_in}
use Rattle.dh_cells.specs.PlainCircuits.{PlainCircuit}
use Rattle.dh_cells.specs.Settled.{Grows}
use Rattle.dh_control.specs.declared.driving.MemoryPorts.{MemoryPorts}
use Rattle.dh_control.specs.declared.driving.Times.{Times}
use Rattle.dh_control.specs.declared.gathering.Keyed.{Keyed}
use Rattle.dh_control.specs.DriverWires.{port_key}
use Rattle.dh_control.specs.UseWires.{DrivesUse, memory_ports_at}

-- an operation that uses a bank
pub record BankUse : Type 0 where
  pub place : ℕ
  pub operation : Operation
  pub reach : Reach
  pub bank : ℕ

abbrev pub bank_uses : (place : ℕ) → Operation → Reach → (banks : List (ℕ × ℕ)) → List BankUse
bank_uses place o r [] = []
bank_uses place o r (b ∷ bs) = record { place = place; operation = o; reach = r; bank = b.0 } ∷ bank_uses place o r bs

abbrev pub operation_uses : (place : ℕ) → Operation → Option Reach → List BankUse
operation_uses place o None = []
operation_uses place o (Some r) = bank_uses place o r r.banks

-- those of operations of which the first has this place
abbrev pub block_uses : (from : ℕ) → List Operation → List BankUse
block_uses from [] = []
block_uses from (o ∷ os) = operation_uses from o (use_in o.form) ++ block_uses (suc from) os

-- the wires of an operation's times: of its block, and of its clock
abbrev pub times_at : (active commit : ℕ) → (at clocks : List ℕ) → (place : ℕ) → Times
times_at active commit numbers clocks place = record { active = active; own = slice_index numbers (slice_index clocks place); commit = commit }

-- a driver for each use, under the number of its port
abbrev pub DriveAll : PlainCircuit → List Kind → (wires : List ℕ) → (times : ℕ → Times) → List MemoryPorts → (pairs : List (List (ℕ × ℕ))) → List BankUse → List (Keyed Driver) → Type 0
DriveAll d kinds wires times ms pairs [] [] = Unit {0}
DriveAll d kinds wires times ms pairs [] (e ∷ es) = ⊥
DriveAll d kinds wires times ms pairs (v ∷ vs) [] = ⊥
DriveAll d kinds wires times ms pairs (v ∷ vs) (e ∷ es) =
    ((e.key ≡ port_key (memory_ports_at ms v.reach.memory).first (memory_ports_at ms v.reach.memory).count (slice_index_or pairs v.place []) v.bank)
    × DrivesUse d kinds wires (times v.place) v.operation (memory_ports_at ms v.reach.memory).bits v.bank e.item)
    × DriveAll d kinds wires times ms pairs vs es

-- drivers were added, behind those that were there, for what operations use
pub record BlockDriven (old new : PlainCircuit) (kinds : List Kind) (wires : List ℕ) (times : ℕ → Times) (ms : List MemoryPorts) (pairs : List (List (ℕ × ℕ))) (os : List Operation) (before after : List (Keyed Driver)) : Type 0 where
  pub grows : Grows old new
  pub added : List (Keyed Driver)
  pub behind : after ≡ before ++ added
  pub drive : DriveAll new kinds wires times ms pairs (block_uses 0 os) added
