-- What operations give, and the accesses and faults that they make, at a path of given ranks: each access with
-- number 0 and at the empty path, since code keeps neither.
use Rattle.std.specs.Prelude.{◌≡◌, ℕ, ◌+◌, ◌-◌, ◌/◌, ◌%◌, ◌^◌, ◌<◌, List, [], ◌∷◌, ◌++◌, map, take, drop, length, slice_index, slice_set, Option, ℤ}
use Rattle.std.specs.List.{AllByRecursion}
use Rattle.dh_value.specs.declared.kinds.Kind.{Kind}
use Rattle.dh_value.specs.declared.operators.Op.{Op}
use Rattle.dh_value.specs.declared.words.Word.{Word}
use Rattle.dh_value.specs.Words as words
use Rattle.dh_value.specs.Words.{IsKind, IsInteger, IsWord, width_of, with_bits, word_of}
use Rattle.dh_value.specs.Operations.{Suits, binary_of}
use Rattle.dh_tree.specs.declared.tables.MemEntry.{MemEntry}
use Rattle.dh_tree.specs.Elements.{Spot, dims_at}
use Rattle.dh_meaning.specs.Core.{Reach}
use Rattle.dh_meaning.specs.Effects.{Begun, Event, bits_at, kind_in, read_made, spot_by_indices, spot_by_row, spot_by_views}
use Rattle.dh_code.specs.Banks.{HasBank}
use Rattle.dh_code.specs.Passing.{StepsFit, steps_of}
use Rattle.dh_code.specs.declared.codes.Operand.{Operand}
use Rattle.dh_code.specs.declared.codes.Operand.TheVariants.{Constant, Variable, Given}
use Rattle.dh_code.specs.declared.operands.View.{View}
use Rattle.dh_code.specs.declared.codes.Target.{Target}
use Rattle.dh_code.specs.declared.codes.Target.TheVariants.{Indices, Row, Through}
use Rattle.dh_code.specs.declared.codes.Access.{Access}
use Rattle.dh_code.specs.declared.codes.CodeOperation.{CodeOperation}
use Rattle.dh_code.specs.declared.codes.CodeOperation.TheVariants.{Binary, Convert, Read}

-- what an operation sees: the slots of variables, what operations before it gave, and the ranks of the path
pub record Sight : Type 0 where
  pub slots : List ℕ
  pub given : List ℕ
  pub ranks : List ℕ

abbrev pub sight : (slots given ranks : List ℕ) → Sight
sight slots given ranks = record { slots = slots; given = given; ranks = ranks }

abbrev pub view_seen : View → Sight
view_seen v = sight v.slots.now v.given.now v.ranks.now

-- the kind of an operand
abbrev pub kind_of_operand : Operand → Kind
kind_of_operand (Constant word) = word.kind
kind_of_operand (Variable first depth kind mask) = kind
kind_of_operand (Given kind at mask) = kind

-- the bits that a value of a kind can have
abbrev pub mask_of : Kind → ℕ
mask_of kind = (2 ^ 64 - 1) / 2 ^ (64 - width_of kind)

-- the word of a kind that has the lowest of these bits
abbrev pub lowest_word : Kind → ℕ → Word
lowest_word kind bits = with_bits kind (bits % 2 ^ width_of kind)

-- the value of an operand
abbrev pub operand_word : Sight → Operand → Word
operand_word s (Constant word) = word
operand_word s (Variable first depth kind mask) = lowest_word kind (slice_index s.slots (first + slice_index s.ranks depth))
operand_word s (Given kind at mask) = lowest_word kind (slice_index s.given at)

-- the values of indices, as whole numbers
abbrev pub index_values : Sight → List Operand → List ℤ
index_values s operands = map (λ o. words.value_of (operand_word s o)) operands

-- where an access leads, None where it is out of range
abbrev pub target_spot : Begun → Sight → (memory : ℕ) → Target → Option Spot
target_spot b s memory (Indices operands) = spot_by_indices b.table memory (index_values s operands)
target_spot b s memory (Through views n operands) = spot_by_views b.table memory (steps_of views) (take n (index_values s operands)) (drop n (index_values s operands))
target_spot b s memory (Row bank row) = spot_by_row b.table memory bank (words.value_of (operand_word s row))

abbrev pub access_spot : Begun → Sight → Access → Option Spot
access_spot b s a = target_spot b s a.memory a.target

-- an access that has no number
abbrev pub unnumbered : Access → Reach
unnumbered a = record { number = 0; place = a.place; memory = a.memory }

-- what an operator gives on two operands, and what an operand is in an integer kind
abbrev pub combined_word : Sight → Op → (left right : Operand) → Word
combined_word s op left right = binary_of op (operand_word s left) (operand_word s right)

abbrev pub converted_word : Sight → Operand → Kind → Word
converted_word s from to = word_of to (words.value_of (operand_word s from))

-- what an operation gives
abbrev pub word_of_operation : Begun → Sight → CodeOperation → Word
word_of_operation b s (Binary op left right) = binary_of op (operand_word s left) (operand_word s right)
word_of_operation b s (Convert from to) = word_of to (words.value_of (operand_word s from))
word_of_operation b s (Read access) = with_bits (kind_in b.table access.memory) (bits_at b.memories (access_spot b s access))

-- the access or fault that it makes
abbrev pub events_of_operation : Begun → Sight → CodeOperation → List Event
events_of_operation b s (Binary op left right) = []
events_of_operation b s (Convert from to) = []
events_of_operation b s (Read access) = read_made (unnumbered access) [] (access_spot b s access) ∷ []

-- what was given so far, with the value of an operation under its number
abbrev pub with_given : Begun → Sight → (at : ℕ) → CodeOperation → Sight
with_given b s at o = sight s.slots (slice_set s.given at (word_of_operation b s o).bits) s.ranks

-- what is seen after operations that are numbered from a number on, and the accesses and faults that they made
abbrev pub sight_after : Begun → Sight → (at : ℕ) → List CodeOperation → Sight
sight_after b s at [] = s
sight_after b s at (o ∷ os) = sight_after b (with_given b s at o) (at + 1) os

abbrev pub events_after : Begun → Sight → (at : ℕ) → List CodeOperation → List Event
events_after b s at [] = []
events_after b s at (o ∷ os) = events_of_operation b s o ++ events_after b (with_given b s at o) (at + 1) os

-- Operations that can be done.

-- an operand has a kind and the mask of the kind, and a constant is a word
abbrev pub IsValidOperand : Operand → Type 0
IsValidOperand (Constant word) = IsWord word
IsValidOperand (Variable first depth kind mask) = IsKind kind × (mask ≡ mask_of kind)
IsValidOperand (Given kind at mask) = IsKind kind × (mask ≡ mask_of kind)

abbrev pub IsValidTarget : List MemEntry → (memory : ℕ) → Target → Type 0
IsValidTarget table memory (Indices operands) = (memory < length table) × AllByRecursion IsValidOperand operands
IsValidTarget table memory (Through views n operands) =
    (memory < length table) × (StepsFit (dims_at table memory) (steps_of views) n (length operands) × AllByRecursion IsValidOperand operands)
IsValidTarget table memory (Row bank row) = HasBank table memory bank × IsValidOperand row

abbrev pub IsValidAccess : List MemEntry → Access → Type 0
IsValidAccess table a = IsValidTarget table a.memory a.target

abbrev pub IsOperation : List MemEntry → CodeOperation → Type 0
IsOperation table (Binary op left right) = Suits op (kind_of_operand left) (kind_of_operand right) × (IsValidOperand left × IsValidOperand right)
IsOperation table (Convert from to) = IsInteger to × IsValidOperand from
IsOperation table (Read access) = IsValidAccess table access
