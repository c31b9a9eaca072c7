-- The words that parts of an expression show, from those of their parts.
use Rattle.std.specs.Prelude.{ℕ, ◌+◌, ◌-◌, ◌^◌, ◌&&◌, min, not, Bool as Truth, true, false, if◌then◌else◌, List, slice_get, Option, Some, None}
use Rattle.dh_value.specs.declared.kinds.Kind.{Kind}
use Rattle.dh_value.specs.declared.kinds.Kind.TheVariants.{Bool, Unsigned, Signed}
use Rattle.dh_value.specs.declared.words.Word.{Word}
use Rattle.dh_value.specs.declared.operators.Op.{Op}
use Rattle.dh_value.specs.declared.operators.Op.TheVariants.{Eq}
use Rattle.dh_value.specs.Words.{value_of, with_bits, word_of}
use Rattle.dh_value.specs.Operations.{binary_of}
use Rattle.dh_tree.specs.PlainTrees as plain
use Rattle.dh_meaning.specs.Bindings.{kind_or_first}
use Rattle.dh_code.specs.declared.places.VariableSlots.{VariableSlots}
use Rattle.dh_code.specs.Extended.{extension_of}
use Rattle.dh_tree.specs.Kinds.{same_kind}
use Rattle.dh_plan.specs.Blocks.{register_word}
use Rattle.dh_expressions.specs.declared.scenes.Lane.{Lane}
use Rattle.dh_expressions.specs.Drafted.{BlockStep, word_shown}
use Rattle.dh_expressions.specs.Levels.{rank_number}

-- Variables.

-- what the register of a variable held as the step began
abbrev pub register_as_begun : BlockStep → (register : ℕ) → Word
register_as_begun x register = register_word x.start.kinds x.start.registers register

-- what a variable holds that was given a value in this step, or else its register
abbrev pub current_shown : BlockStep → Option (Option ℕ) → (register : ℕ) → Word
current_shown x None register = register_as_begun x register
current_shown x (Some None) register = register_as_begun x register
current_shown x (Some (Some value)) register = word_shown x value

abbrev pub variable_shown : BlockStep → (current : List (Option ℕ)) → (register : ℕ) → Word
variable_shown x current register = current_shown x (slice_get current register) register

-- the register of a variable at a path
abbrev pub register_at : VariableSlots → Lane → ℕ
register_at held lane = min (held.first + rank_number lane.around.levels.now held.depth lane.number) (2 ^ 64 - 1)

abbrev pub guard_or_none : Option (Option ℕ) → Option ℕ
guard_or_none None = None
guard_or_none (Some guard) = guard

-- the guard at a path
abbrev pub guard_of : List (Option ℕ) → (number : ℕ) → Option ℕ
guard_of guards number = guard_or_none (slice_get guards number)

-- Kinds. What memories hold need be no word of their kind; all else that an expression gives is one.

abbrev pub is_access : plain.TermForm → Truth
is_access (plain.number negative n) = false
is_access (plain.truth_value value) = false
is_access (plain.named r) = false
is_access (plain.accessed r indices) = true
is_access (plain.in_bank r bank place row) = true
is_access (plain.applied op left right) = false
is_access (plain.converted inner to) = false

abbrev pub is_read_term : plain.Term → Truth
is_read_term (plain.term place kind form) = is_access form

abbrev pub kind_written : plain.Term → Kind
kind_written (plain.term place kind form) = kind_or_first kind

-- an expression gives words of this kind, which need no conversion to it
abbrev pub is_kept : plain.Term → Kind → Truth
is_kept t to = same_kind (kind_written t) to && not (is_read_term t)

abbrev pub conversion_shown : plain.Term → (to : Kind) → Word → Word
conversion_shown t to w = if is_kept t to then w else word_of to (value_of w)

-- an operand, extended to an integer kind; as it is for Bool
abbrev pub extended_shown : plain.Term → (to : Kind) → Word → Word
extended_shown t Bool w = w
extended_shown t (Unsigned m) w = conversion_shown t (Unsigned m) w
extended_shown t (Signed m) w = conversion_shown t (Signed m) w

-- what an operator makes of two operands, extended as it needs
abbrev pub applied_shown : Op → (left right : plain.Term) → Word → Word → Word
applied_shown op left right a b =
    binary_of op (extended_shown left (extension_of op (kind_written left) (kind_written right)) a) (extended_shown right (extension_of op (kind_written left) (kind_written right)) b)

-- a truth that a memory held, as a word: its lowest bit
abbrev pub lowest_bit : Word → Word
lowest_bit w = binary_of Eq (word_of (Unsigned 1) (value_of w)) (with_bits (Unsigned 1) 1)

-- a value as a variable or a memory of a kind holds it
abbrev pub held_shown : plain.Term → (to : Kind) → Word → Word
held_shown t Bool w = if is_read_term t then lowest_bit w else w
held_shown t (Unsigned m) w = conversion_shown t (Unsigned m) w
held_shown t (Signed m) w = conversion_shown t (Signed m) w
