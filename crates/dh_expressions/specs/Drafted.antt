-- What holds of operations as they are put down. Each fact is stated for every list of words that solves their
-- equations, so that it stays true when operations are added behind; none speaks of the words that the meaning of
-- a block makes one after the other.
use Rattle.std.specs.Prelude.{◌≡◌, ℕ, ◌^◌, ◌<◌, ◌≤◌, true, false, List, [], ◌∷◌, ◌++◌, drop, length, slice_get, Option, Some, None}
use Rattle.dh_base.specs.declared.outcomes.FaultKind.{FaultKind}
use Rattle.dh_base.specs.declared.outcomes.FaultKind.TheVariants.{OutOfRange}
use Rattle.dh_base.specs.declared.places.Place.{Place}
use Rattle.dh_value.specs.declared.words.Word.{Word}
use Rattle.dh_tree.specs.Elements.{Spot}
use Rattle.dh_meaning.specs.Effects.{Event, reads, writes, faults}
use Rattle.dh_plan.specs.declared.operations.Operation.{Operation}
use Rattle.dh_plan.specs.declared.operations.OperationForm.{OperationForm}
use Rattle.dh_plan.specs.Blocks.{StepStart, BlockEvent, fails, puts, block_events, form_word, in_memories, is_on, operation_word, word_at}
use Rattle.dh_expressions.specs.declared.drafts.Draft.{Draft}

-- a step that does a block: how it begins, the number of the block's first operation, the faults of the plan and the
-- words that the block's operations give
pub record BlockStep : Type 0 where
  pub start : StepStart
  pub first : ℕ
  pub named : List (FaultKind × Place)
  pub words : List Word

-- what an operation gives
abbrev pub word_shown : BlockStep → (number : ℕ) → Word
word_shown x number = word_at x.first x.words number

-- a guard holds, or there is none
abbrev pub holds : BlockStep → Option ℕ → Type 0
holds x guard = is_on x.first x.words guard ≡ true

abbrev pub fails_to_hold : BlockStep → Option ℕ → Type 0
fails_to_hold x guard = is_on x.first x.words guard ≡ false

abbrev pub form_word_shown : BlockStep → (number : ℕ) → OperationForm → Word
form_word_shown x number form = form_word x.start (in_memories x.start x.first) x.first x.words number form

abbrev pub operation_shown : BlockStep → (number : ℕ) → Operation → Word
operation_shown x number o = operation_word x.start (in_memories x.start x.first) x.first x.words number o

-- the words solve the equations of the block so far, and the faults so far are those of the plan, which are few
pub record FitsStep (x : BlockStep) (d : Draft) : Type 0 where
  pub solves : (n : ℕ) (o : Operation) → x.first ≤ n → slice_get d.operations.items n ≡ Some o → word_shown x n ≡ operation_shown x n o
  pub names : (n : ℕ) (f : FaultKind × Place) → slice_get d.faults n ≡ Some f → slice_get x.named n ≡ Some f
  pub few : length x.named ≤ 2 ^ 32

-- a block has begun
abbrev pub BlockBegun : BlockStep → Draft → Type 0
BlockBegun x d = x.first ≤ length d.operations.items

-- What is told of a step, for program and plan alike: faults and writes, in order. Reads tell nothing.
pub data Tale : Type 0 where
  failed : FaultKind → Place → Tale
  -- a fault that the plan does not name
  unnamed : Tale
  put : Spot → (bits : ℕ) → Tale

abbrev pub fault_told : Option (FaultKind × Place) → Tale
fault_told None = unnamed
fault_told (Some f) = failed f.0 f.1

abbrev pub told_block : List (FaultKind × Place) → List BlockEvent → List Tale
told_block named [] = []
told_block named (fails fault ∷ es) = fault_told (slice_get named fault) ∷ told_block named es
told_block named (puts spot bits ∷ es) = put spot bits ∷ told_block named es

abbrev pub tales_told : List Event → List Tale
tales_told [] = []
tales_told (reads number place path spot ∷ es) = tales_told es
tales_told (writes number place path spot value ∷ es) = put spot value ∷ tales_told es
tales_told (faults number place path kind ∷ es) = failed kind place ∷ tales_told es

-- the tale of the operations of the block so far
abbrev pub tale : BlockStep → Draft → List Tale
tale x d = told_block x.named (block_events x.start x.first x.words (drop x.first d.operations.items))

-- All that appends keep.
pub record Extends (old new : Draft) : Type 0 where
  pub operations : (n : ℕ) (o : Operation) → slice_get old.operations.items n ≡ Some o → slice_get new.operations.items n ≡ Some o
  pub faults : (n : ℕ) (f : FaultKind × Place) → slice_get old.faults n ≡ Some f → slice_get new.faults n ≡ Some f
  pub longer : length old.operations.items ≤ length new.operations.items

-- one operation more
pub record Pushes (old new : Draft) (number : ℕ) (guard : Option ℕ) (form : OperationForm) : Type 0 where
  pub operations : new.operations.items ≡ old.operations.items ++ record { guard = guard; form = form } ∷ []
  pub faults : new.faults ≡ old.faults
  pub number_is : number ≡ length old.operations.items

-- one fault more: an access at this place that is out of range
pub record AddsRangeFault (old new : Draft) (number : ℕ) (place : Place) : Type 0 where
  pub operations : new.operations.items ≡ old.operations.items
  pub faults : new.faults ≡ old.faults ++ (OutOfRange, place) ∷ []
  pub number_is : length old.faults < 4294967296 → number ≡ length old.faults

-- Operations that give a word, and tell nothing whatever the guards.
pub record Computes (old new : Draft) (value : ℕ) (word : BlockStep → Word) : Type 0 where
  pub extends : Extends old new
  pub below : value < length new.operations.items
  pub is : (x : BlockStep) → FitsStep x new → BlockBegun x old → word_shown x value ≡ word x
  pub quiet : (x : BlockStep) → FitsStep x new → BlockBegun x old → tale x new ≡ tale x old

-- the same of a value that stood there before, or was made
pub record Gives (old new : Draft) (value : ℕ) (word : BlockStep → Word) : Type 0 where
  pub extends : Extends old new
  pub is : (x : BlockStep) → FitsStep x new → BlockBegun x old → word_shown x value ≡ word x
  pub quiet : (x : BlockStep) → FitsStep x new → BlockBegun x old → tale x new ≡ tale x old
