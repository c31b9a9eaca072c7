-- What the operations of a block give and do in a step. The values are a list, one word for each operation in
-- order; all that a block does is a function of this list. Registers and memories are read as the step began.
-- (Blocks are this project's; after single-assignment form.)
use Rattle.std.specs.Prelude.{◌≡◌, ℕ, ◌+◌, ◌-◌, Bool, true, if◌then◌else◌, List, [], ◌∷◌, ◌++◌, length, map, slice_get, slice_index, slice_set, slice_index_or, Option, Some, None, ℤ}
use Rattle.dh_value.specs.declared.kinds.Kind.{Kind}
use Rattle.dh_value.specs.declared.kinds.Kind.TheVariants as kind
use Rattle.dh_value.specs.declared.words.Word.{Word}
use Rattle.dh_value.specs.Words.{value_of, with_bits, word_of}
use Rattle.dh_value.specs.Operations.{binary_of, is_true}
use Rattle.dh_tree.specs.declared.tables.MemEntry.{MemEntry}
use Rattle.dh_tree.specs.Elements.{Spot}
use Rattle.dh_meaning.specs.Effects.{kind_in, bits_at, spot_by_row, put_element}
pub use Rattle.dh_meaning.specs.Effects.{spot_if_inside}
use Rattle.dh_plan.specs.declared.operations.Operation.{Operation}
use Rattle.dh_plan.specs.declared.operations.OperationForm.{OperationForm}
use Rattle.dh_plan.specs.declared.operations.OperationForm.TheVariants.{Constant, Old, Compute, Convert, Select, Check, Probe, Read, Write, Set}
use Rattle.dh_plan.specs.declared.operations.Reach.{Reach}
use Rattle.dh_plan.specs.declared.operations.ReachStep.{ReachStep}
use Rattle.dh_tree.specs.declared.viewing.ViewMap.{ViewMap}
use Rattle.dh_plan.specs.Passages.{Passage, indices_behind}

-- how a step begins: the memories by their table, the views, and the registers with their kinds
pub record StepStart : Type 0 where
  pub table : List MemEntry
  pub views : List ViewMap
  pub kinds : List Kind
  pub registers : List ℕ
  pub memories : List (List ℕ)

-- Values.

abbrev pub no_word : Word
no_word = with_bits kind.Bool 0

-- the value of the operation of this number, in a block whose first operation has the number `first`
abbrev pub word_at : (first : ℕ) → List Word → (number : ℕ) → Word
word_at first ws number = slice_index_or ws (number - first) no_word

-- the guard holds, or there is none
abbrev pub is_on : (first : ℕ) → List Word → Option ℕ → Bool
is_on first ws None = true
is_on first ws (Some g) = is_true (word_at first ws g)

-- values as whole numbers
abbrev pub numbers_at : (first : ℕ) → List Word → List ℕ → List ℤ
numbers_at first ws vs = map (λ v. value_of (word_at first ws v)) vs

abbrev pub kind_at : List Kind → (register : ℕ) → Kind
kind_at kinds register = slice_index_or kinds register kind.Bool

-- the word that a register holds
abbrev pub register_word : List Kind → (registers : List ℕ) → (register : ℕ) → Word
register_word kinds registers r = with_bits (kind_at kinds r) (slice_index registers r)

-- Accesses.

abbrev pub passages : (first : ℕ) → List Word → List ReachStep → List Passage
passages first ws steps = map (λ s. record { view = s.view; offsets = numbers_at first ws s.offsets }) steps

-- the first of the banks that are listed
abbrev pub first_listed_bank : List (ℕ × ℕ) → ℕ
first_listed_bank [] = 0
first_listed_bank (b ∷ bs) = b.0

-- the bank that is picked, or the only one
abbrev pub bank_picked : (first : ℕ) → List Word → List (ℕ × ℕ) → Option ℕ → ℕ
bank_picked first ws banks None = first_listed_bank banks
bank_picked first ws banks (Some v) = (word_at first ws v).bits

-- where an access leads, None where it is out of range: by its indices through its views, or by a row of a bank
abbrev pub spot_in_row : StepStart → (first : ℕ) → List Word → Reach → (row : Option ℕ) → Option Spot
spot_in_row s first ws r None = spot_if_inside s.table r.memory (indices_behind s.views (passages first ws r.steps) (numbers_at first ws r.indices))
spot_in_row s first ws r (Some row) = spot_by_row s.table r.memory (bank_picked first ws r.banks r.select) (value_of (word_at first ws row))

abbrev pub spot_of_reach : StepStart → (first : ℕ) → List Word → Reach → Option Spot
spot_of_reach s first ws r = spot_in_row s first ws r r.row

-- What a read shows: of its number, its access and the values so far, the bits. In a plan these are the bits of
-- the element; in a netlist those that its port holds. All else is one for both.
abbrev pub Look : Type 0
Look = (number : ℕ) → Reach → List Word → ℕ

abbrev pub in_memories : StepStart → (first : ℕ) → Look
in_memories s first number r ws = bits_at s.memories (spot_of_reach s first ws r)

-- The value of each form; a form that gives none has false.
abbrev pub form_word : StepStart → Look → (first : ℕ) → List Word → (number : ℕ) → OperationForm → Word
form_word s look first ws number (Constant word) = word
form_word s look first ws number (Old register) = register_word s.kinds s.registers register
form_word s look first ws number (Compute op left right) = binary_of op (word_at first ws left) (word_at first ws right)
form_word s look first ws number (Convert inner to) = word_of to (value_of (word_at first ws inner))
form_word s look first ws number (Select test a b) = if is_true (word_at first ws test) then word_at first ws a else word_at first ws b
form_word s look first ws number (Check ok fault) = no_word
form_word s look first ws number (Probe r fault) = no_word
form_word s look first ws number (Read r) = with_bits (kind_in s.table r.memory) (look number r ws)
form_word s look first ws number (Write r value) = no_word
form_word s look first ws number (Set register value) = no_word

-- 0 or false where the guard is false
abbrev pub guarded : Bool → Word → Word
guarded on w = if on then w else with_bits w.kind 0

abbrev pub operation_word : StepStart → Look → (first : ℕ) → List Word → (number : ℕ) → Operation → Word
operation_word s look first ws number o = guarded (is_on first ws o.guard) (form_word s look first ws number o.form)

-- the values of operations behind these, one after the other
abbrev pub values_behind : StepStart → Look → (first : ℕ) → List Word → List Operation → List Word
values_behind s look first ws [] = ws
values_behind s look first ws (o ∷ os) = values_behind s look first (ws ++ operation_word s look first ws (first + length ws) o ∷ []) os

-- the values of a block
abbrev pub values_of_operations : StepStart → Look → (first : ℕ) → List Operation → List Word
values_of_operations s look first os = values_behind s look first [] os

-- The same by equations: each operation has its value by those of the others. It holds of a part of a block, too.
pub record Solves (s : StepStart) (look : Look) (first : ℕ) (os : List Operation) (ws : List Word) : Type 0 where
  pub each : (i : ℕ) (o : Operation) → slice_get os i ≡ Some o → word_at first ws (first + i) ≡ operation_word s look first ws (first + i) o

-- these are all the values of a block
pub record AreValues (s : StepStart) (look : Look) (first : ℕ) (os : List Operation) (ws : List Word) : Type 0 where
  pub long : length ws ≡ length os
  pub solve : Solves s look first os ws

-- Faults and writes.

-- a fault, by its number in the plan, or a write
pub data BlockEvent : Type 0 where
  fails : (fault : ℕ) → BlockEvent
  puts : Spot → (bits : ℕ) → BlockEvent

abbrev pub fails_unless : (fault : ℕ) → Bool → List BlockEvent
fails_unless fault ok = if ok then [] else fails fault ∷ []

-- an access that is out of range
abbrev pub fails_outside : (fault : ℕ) → Option Spot → List BlockEvent
fails_outside fault None = fails fault ∷ []
fails_outside fault (Some spot) = []

-- a write out of range writes nothing
abbrev pub puts_inside : (bits : ℕ) → Option Spot → List BlockEvent
puts_inside bits None = []
puts_inside bits (Some spot) = puts spot bits ∷ []

abbrev pub operation_form_events : StepStart → (first : ℕ) → List Word → OperationForm → List BlockEvent
operation_form_events s first ws (Constant word) = []
operation_form_events s first ws (Old register) = []
operation_form_events s first ws (Compute op left right) = []
operation_form_events s first ws (Convert inner to) = []
operation_form_events s first ws (Select test a b) = []
operation_form_events s first ws (Check ok fault) = fails_unless fault (is_true (word_at first ws ok))
operation_form_events s first ws (Probe r fault) = fails_outside fault (spot_of_reach s first ws r)
operation_form_events s first ws (Read r) = []
operation_form_events s first ws (Write r value) = puts_inside (word_at first ws value).bits (spot_of_reach s first ws r)
operation_form_events s first ws (Set register value) = []

abbrev pub operation_events : StepStart → (first : ℕ) → List Word → Operation → List BlockEvent
operation_events s first ws o = if is_on first ws o.guard then operation_form_events s first ws o.form else []

-- the faults and writes of operations, in order
abbrev pub block_events : StepStart → (first : ℕ) → List Word → List Operation → List BlockEvent
block_events s first ws [] = []
block_events s first ws (o ∷ os) = operation_events s first ws o ++ block_events s first ws os

-- Registers.

-- a register is set
pub record RegisterSet : Type 0 where
  pub register : ℕ
  pub bits : ℕ

abbrev pub form_sets : (first : ℕ) → List Word → OperationForm → List RegisterSet
form_sets first ws (Constant word) = []
form_sets first ws (Old register) = []
form_sets first ws (Compute op left right) = []
form_sets first ws (Convert inner to) = []
form_sets first ws (Select test a b) = []
form_sets first ws (Check ok fault) = []
form_sets first ws (Probe r fault) = []
form_sets first ws (Read r) = []
form_sets first ws (Write r value) = []
form_sets first ws (Set register value) = record { register = register; bits = (word_at first ws value).bits } ∷ []

abbrev pub operation_sets : (first : ℕ) → List Word → Operation → List RegisterSet
operation_sets first ws o = if is_on first ws o.guard then form_sets first ws o.form else []

-- the registers that operations set, in order
abbrev pub block_sets : (first : ℕ) → List Word → List Operation → List RegisterSet
block_sets first ws [] = []
block_sets first ws (o ∷ os) = operation_sets first ws o ++ block_sets first ws os

-- The end of a step.

-- the first fault
abbrev pub first_fault : List BlockEvent → Option ℕ
first_fault [] = None
first_fault (fails fault ∷ es) = Some fault
first_fault (puts spot bits ∷ es) = first_fault es

-- a write, by where it leads
pub record Put : Type 0 where
  pub spot : Spot
  pub bits : ℕ

-- the writes, in order
abbrev pub puts_of : List BlockEvent → List Put
puts_of [] = []
puts_of (fails fault ∷ es) = puts_of es
puts_of (puts spot bits ∷ es) = record { spot = spot; bits = bits } ∷ puts_of es

-- the memories after writes, one after the other
abbrev pub all_put : List Put → List (List ℕ) → List (List ℕ)
all_put [] memories = memories
all_put (p ∷ ps) memories = all_put ps (put_element memories p.spot p.bits)

-- the registers after they were set, one after the other
abbrev pub all_set : List RegisterSet → (registers : List ℕ) → List ℕ
all_set [] registers = registers
all_set (s ∷ ss) registers = all_set ss (slice_set registers s.register s.bits)
