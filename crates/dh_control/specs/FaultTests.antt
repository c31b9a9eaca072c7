-- The first fault of a step by wires: tests in order, each with the number of its fault from 1.
use Rattle.std.specs.Prelude.{◌≡◌, ℕ, suc, ◌<◌, ◌^◌, Bool, if◌then◌else◌, List, Option, Some, None}
use Rattle.dh_value.specs.declared.kinds.Kind.{Kind}
use Rattle.dh_value.specs.declared.words.Word.{Word}
use Rattle.dh_plan.specs.declared.operations.Operation.{Operation}
use Rattle.dh_plan.specs.declared.operations.OperationForm.{OperationForm}
use Rattle.dh_plan.specs.declared.operations.OperationForm.TheVariants.{Check, Probe}
use Rattle.dh_plan.specs.Blocks.{StepStart, block_events, first_fault}
use Rattle.dh_cells.specs.FirstTests.{AreTested}
use Rattle.dh_cells.specs.PlainCircuits.{PlainCircuit}
use Rattle.dh_cells.specs.Settled.{Signals, IsSettled, Grows}
use Rattle.dh_cells.specs.ShownValues.{is_one, first_of}
use Rattle.dh_cells.specs.declared.trees.Tested.{Tested}
use Rattle.dh_control.specs.ValuesShown.{HasWire, GuardHasWire, AreShownWords}

-- the number of a fault from 1, or a default where there is none
abbrev pub code_or : Option ℕ → (default : ℕ) → ℕ
code_or None default = default
code_or (Some fault) default = suc fault

abbrev pub code_where : Bool → Option ℕ → (default : ℕ) → ℕ
code_where t fault default = if t then code_or fault default else default

-- what a check takes has a wire, and the number of its fault has 32 bits; in a plan of rows nothing is probed
abbrev pub CheckHasWire : PlainCircuit → (wires : List ℕ) → OperationForm → Type 0
CheckHasWire d wires (Check ok fault) = HasWire d wires 1 ok × (suc fault < 2 ^ 32)
CheckHasWire d wires (Probe r fault) = ⊥
CheckHasWire d wires f = Unit {0}

pub record CheckSuits (d : PlainCircuit) (wires : List ℕ) (o : Operation) : Type 0 where
  pub guard : GuardHasWire d wires o.guard
  pub check : CheckHasWire d wires o.form

-- tests were added behind those that were there, for the faults of operations of a block that a wire says is active
pub record ChecksAdded (old new : PlainCircuit) (active : ℕ) (wires : List ℕ) (os : List Operation) (before after : List Tested) : Type 0 where
  pub grows : Grows old new
  pub tests : AreTested old before 32 → AreTested new after 32
  pub does : (x : Signals) (s : StepStart) (first : ℕ) (ws : List Word) (kinds : List Kind) (default : ℕ) → IsSettled new x → AreShownWords first ws kinds wires x os
      → first_of x after default ≡ first_of x before (code_where (is_one x active) (first_fault (block_events s first ws os)) default)
