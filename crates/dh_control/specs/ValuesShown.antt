-- What is known of the wires of a plan's values when control is added: values go by their numbers in the plan.
use Rattle.std.specs.Prelude.{◌≡◌, ℕ, ◌<◌, List, length, slice_index, slice_index_or, Option}
use Rattle.std.specs.List.{AllByRecursion}
use Rattle.dh_value.specs.declared.kinds.Kind.{Kind}
use Rattle.dh_value.specs.declared.kinds.Kind.TheVariants as kind
use Rattle.dh_value.specs.declared.words.Word.{Word}
use Rattle.dh_value.specs.Words.{with_bits}
use Rattle.dh_plan.specs.declared.operations.Operation.{Operation}
use Rattle.dh_plan.specs.Blocks.{word_at}
use Rattle.dh_plan.specs.Ordered.{one_or_none, operation_takes}
use Rattle.dh_cells.specs.PlainCircuits.{PlainCircuit}
use Rattle.dh_cells.specs.Settled.{Signals, IsWire, shown}

-- the value has a wire of this width
abbrev pub HasWire : PlainCircuit → (wires : List ℕ) → (width value : ℕ) → Type 0
HasWire d wires width value = (value < length wires) × IsWire d (slice_index wires value) width

-- a guard, where there is one, has a wire of one bit
abbrev pub GuardHasWire : PlainCircuit → (wires : List ℕ) → Option ℕ → Type 0
GuardHasWire d wires guard = AllByRecursion (HasWire d wires 1) (one_or_none guard)

-- the word of a value is of its kind, with what its wire shows
abbrev pub IsShownValue : (first : ℕ) → (ws : List Word) → (kinds : List Kind) → (wires : List ℕ) → Signals → (value : ℕ) → Type 0
IsShownValue first ws kinds wires x value = word_at first ws value ≡ with_bits (slice_index_or kinds value kind.Bool) (shown x (slice_index wires value))

-- these are the words of all values that operations take
pub record AreShownWords (first : ℕ) (ws : List Word) (kinds : List Kind) (wires : List ℕ) (x : Signals) (os : List Operation) : Type 0 where
  pub each : AllByRecursion (λ o. AllByRecursion (IsShownValue first ws kinds wires x) (operation_takes o)) os
