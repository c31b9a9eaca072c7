-- What the registers are after the sets of a step, by wires: moves under the test that a block's writes are made.
use Rattle.std.specs.Prelude.{◌≡◌, ℕ, Bool, if◌then◌else◌, List, slice_index}
use Rattle.dh_value.specs.declared.kinds.Kind.{Kind}
use Rattle.dh_value.specs.declared.words.Word.{Word}
use Rattle.dh_plan.specs.declared.operations.Operation.{Operation}
use Rattle.dh_plan.specs.declared.operations.OperationForm.{OperationForm}
use Rattle.dh_plan.specs.declared.operations.OperationForm.TheVariants.{Set}
use Rattle.dh_plan.specs.Blocks.{RegisterSet, block_sets, all_set}
use Rattle.dh_cells.specs.PlainCircuits.{PlainCircuit}
use Rattle.dh_cells.specs.Settled.{Signals, IsSettled, Grows}
use Rattle.dh_cells.specs.ShownValues.{is_one}
use Rattle.dh_control.specs.MovedValues.{Move, moved_values, AreMoves}
use Rattle.dh_control.specs.ValuesShown.{HasWire, GuardHasWire, AreShownWords}

abbrev pub all_set_where : Bool → List RegisterSet → (registers : List ℕ) → List ℕ
all_set_where t sets registers = if t then all_set sets registers else registers

-- what a form sets has a wire of the register's width
abbrev pub SetHasWire : PlainCircuit → (widths wires : List ℕ) → OperationForm → Type 0
SetHasWire d widths wires (Set register value) = HasWire d wires (slice_index widths register) value
SetHasWire d widths wires f = Unit {0}

pub record SetSuits (d : PlainCircuit) (widths wires : List ℕ) (o : Operation) : Type 0 where
  pub guard : GuardHasWire d wires o.guard
  pub value : SetHasWire d widths wires o.form

-- moves were added, in front of those that were there, for the sets of operations in a clock in which a wire shows 1
pub record SetsAdded (old new : PlainCircuit) (widths : List ℕ) (commit : ℕ) (wires : List ℕ) (os : List Operation) (before after : List Move) : Type 0 where
  pub grows : Grows old new
  pub moves : AreMoves old widths before → AreMoves new widths after
  pub does : (x : Signals) (first : ℕ) (ws : List Word) (kinds : List Kind) (values : List ℕ) → IsSettled new x → AreShownWords first ws kinds wires x os
      → moved_values x after values ≡ moved_values x before (all_set_where (is_one x commit) (block_sets first ws os) values)
