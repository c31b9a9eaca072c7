-- Drivers of what an operation reads or writes: a read asks in its own clock, a write where its block's writes are made.
use Rattle.std.specs.Prelude.{◌≡◌, ℕ, ◌<◌, ◌^◌, ◌&&◌, Bool, true, false, List, [], ◌∷◌, ◌++◌, length, slice_get, slice_index, slice_index_or, Option, Some, None}
use Rattle.std.specs.List.{AllByRecursion}
use Rattle.dh_value.specs.Words.{IsWidth}
use Rattle.dh_value.specs.declared.kinds.Kind.{Kind}
use Rattle.dh_value.specs.declared.words.Word.{Word}
use Rattle.dh_net.specs.declared.nets.Driver.{Driver}
use Rattle.dh_net.specs.declared.ports.Port.{Port}
use Rattle.dh_plan.specs.declared.operations.Operation.{Operation}
use Rattle.dh_plan.specs.declared.operations.OperationForm.{OperationForm}
use Rattle.dh_plan.specs.declared.operations.OperationForm.TheVariants.{Read, Write}
use Rattle.dh_plan.specs.declared.operations.Reach.{Reach}
use Rattle.dh_plan.specs.Blocks.{is_on}
use Rattle.dh_plan.specs.SoundPlans.{use_in}
use Rattle.dh_cells.specs.PlainCircuits.{PlainCircuit}
use Rattle.dh_cells.specs.Settled.{Signals, IsSettled, Grows, IsWire, shown}
use Rattle.dh_cells.specs.ShownValues.{is_one}
use Rattle.dh_lower.specs.PortUsers.{SaysForm, row_bits}
use Rattle.dh_control.specs.declared.driving.MemoryPorts.{MemoryPorts}
use Rattle.dh_control.specs.declared.driving.Times.{Times}
use Rattle.dh_control.specs.declared.gathering.Keyed.{Keyed}
use Rattle.dh_control.specs.DriverWires.{MayHaveValue, MayShow, DriveBanks, select_picks, port_key}
use Rattle.dh_control.specs.ValuesShown.{GuardHasWire, AreShownWords}

-- a form asks, of whichever bank it picks
abbrev pub form_time : Signals → Times → OperationForm → Bool
form_time x t (Read r) = is_one x t.active && is_one x t.own
form_time x t (Write r value) = is_one x t.commit
form_time x t f = false

abbrev pub form_picks : (first : ℕ) → List Word → (bank : ℕ) → OperationForm → Bool
form_picks first ws bank (Read r) = select_picks first ws r.select bank
form_picks first ws bank (Write r value) = select_picks first ws r.select bank
form_picks first ws bank f = false

-- a driver of a bank asks for what the operation does
pub record DrivesUse (d : PlainCircuit) (kinds : List Kind) (wires : List ℕ) (t : Times) (o : Operation) (bits bank : ℕ) (driver : Driver) : Type 0 where
  pub enable_wire : IsWire d driver.enable 1
  pub row_wire : IsWire d driver.row bits
  pub data_is : (r : Reach) (value : ℕ) → o.form ≡ Write r value → driver.data_ ≡ slice_index wires value
  -- it writes where the operation does
  pub writes : driver.write ≡ true → (r : Reach) × ((value : ℕ) × (o.form ≡ Write r value))
  pub enable_is : (x : Signals) (first : ℕ) (ws : List Word) → IsSettled d x → AreShownWords first ws kinds wires x (o ∷ [])
      → is_one x driver.enable ≡ ((form_time x t o.form && is_on first ws o.guard) && form_picks first ws bank o.form)
  pub says : (x : Signals) (first : ℕ) (ws : List Word) (p : Port) → IsSettled d x → AreShownWords first ws kinds wires x (o ∷ []) → p.row_width ≡ bits → SaysForm p x.wires first ws driver o.form

-- for each bank a driver, under the number of its port
abbrev pub DriveUses : PlainCircuit → List Kind → (wires : List ℕ) → Times → Operation → MemoryPorts → (pairs : List (ℕ × ℕ)) → (banks : List (ℕ × ℕ)) → List (Keyed Driver) → Type 0
DriveUses d kinds wires t o m pairs [] [] = Unit {0}
DriveUses d kinds wires t o m pairs [] (e ∷ es) = ⊥
DriveUses d kinds wires t o m pairs (b ∷ bs) [] = ⊥
DriveUses d kinds wires t o m pairs (b ∷ bs) (e ∷ es) =
    ((e.key ≡ port_key m.first m.count pairs b.0) × DrivesUse d kinds wires t o m.bits b.0 e.item) × DriveUses d kinds wires t o m pairs bs es

-- drivers were added behind those that were there, for what an operation reads or writes
pub record ReachDriven (old new : PlainCircuit) (kinds : List Kind) (wires : List ℕ) (t : Times) (o : Operation) (m : MemoryPorts) (pairs banks : List (ℕ × ℕ)) (before after : List (Keyed Driver)) : Type 0 where
  pub grows : Grows old new
  pub added : List (Keyed Driver)
  pub behind : after ≡ before ++ added
  pub drive : DriveUses new kinds wires t o m pairs banks added

-- the drivers of a reach, by a wire that tells whether it is asked for, and one of what is written
pub record ReachAsked (old new : PlainCircuit) (kinds : List Kind) (wires : List ℕ) (test : ℕ) (write : Bool) (value : ℕ) (r : Reach) (m : MemoryPorts) (pairs : List (ℕ × ℕ)) (before after : List (Keyed Driver)) : Type 0 where
  pub grows : Grows old new
  pub row : ℕ
  pub row_there : IsWire new row m.bits
  pub row_is : (x : Signals) (first : ℕ) (ws : List Word) → IsSettled new x → MayShow first ws kinds wires x r.row → shown x row ≡ row_bits m.bits first ws r.row
  pub added : List (Keyed Driver)
  pub behind : after ≡ before ++ added
  pub drive : DriveBanks new kinds wires (record { test = test; write = write; row = row; value = value }) r.select m.first m.count pairs r.banks added

-- what a reach needs to be driven
pub record ReachSuits (d : PlainCircuit) (kinds : List Kind) (wires : List ℕ) (m : MemoryPorts) (pairs : List (ℕ × ℕ)) (r : Reach) : Type 0 where
  pub bits : IsWidth m.bits
  pub row : MayHaveValue d kinds wires r.row
  pub select : MayHaveValue d kinds wires r.select
  pub small : AllByRecursion (λ b. port_key m.first m.count pairs b.0 < 2 ^ 64) r.banks

-- the ports of a memory that may be named
abbrev pub no_ports : MemoryPorts
no_ports = record { first = 0; count = 0; bits = 0 }

abbrev pub memory_ports_at : List MemoryPorts → (memory : ℕ) → MemoryPorts
memory_ports_at ms memory = slice_index_or ms memory no_ports

abbrev pub FormUseSuits : PlainCircuit → List Kind → (wires : List ℕ) → List MemoryPorts → (pairs : List (ℕ × ℕ)) → OperationForm → Type 0
FormUseSuits d kinds wires ms pairs (Read r) = (r.memory < length ms) × ReachSuits d kinds wires (memory_ports_at ms r.memory) pairs r
FormUseSuits d kinds wires ms pairs (Write r value) = (value < length wires) × ((r.memory < length ms) × ReachSuits d kinds wires (memory_ports_at ms r.memory) pairs r)
FormUseSuits d kinds wires ms pairs f = Unit {0}

pub record UseSuits (d : PlainCircuit) (kinds : List Kind) (wires : List ℕ) (ms : List MemoryPorts) (pairs : List (ℕ × ℕ)) (o : Operation) : Type 0 where
  pub guard : GuardHasWire d wires o.guard
  pub form : FormUseSuits d kinds wires ms pairs o.form

-- so do all operations of a block, each with its own pairs
abbrev pub AllUsesSuit : PlainCircuit → List Kind → (wires : List ℕ) → List MemoryPorts → (pairs : List (List (ℕ × ℕ))) → List Operation → Type 0
AllUsesSuit d kinds wires ms pairs os = (i : ℕ) (o : Operation) → slice_get os i ≡ Some o → UseSuits d kinds wires ms (slice_index_or pairs i []) o

pub record TimesThere (d : PlainCircuit) (t : Times) : Type 0 where
  pub active : IsWire d t.active 1
  pub own : IsWire d t.own 1
  pub commit : IsWire d t.commit 1

-- what an operation uses is driven, if it uses something
abbrev pub UsedDriven : (old new : PlainCircuit) → List Kind → (wires : List ℕ) → Times → Operation → List MemoryPorts → (pairs : List (ℕ × ℕ)) → (before after : List (Keyed Driver)) → Option Reach → Type 0
UsedDriven old new kinds wires t o ms pairs before after None = Grows old new × (after ≡ before)
UsedDriven old new kinds wires t o ms pairs before after (Some r) = ReachDriven old new kinds wires t o (memory_ports_at ms r.memory) pairs r.banks before after

pub record UseDriven (old new : PlainCircuit) (kinds : List Kind) (wires : List ℕ) (t : Times) (o : Operation) (ms : List MemoryPorts) (pairs : List (ℕ × ℕ)) (before after : List (Keyed Driver)) : Type 0 where
  pub used : UsedDriven old new kinds wires t o ms pairs before after (use_in o.form)
