-- Indices and offsets that are constants of a block: their numbers, and the row and bank of the element that indices
-- name, as numbers of 64 bits.
use Rattle.std.specs.Prelude.{ℕ, ◌+◌, ◌-◌, ◌*◌, ◌/◌, ◌%◌, ◌^◌, nat_le, nat_lt, if◌then◌else◌, List, ◌∷◌, slice_get, Option, Some, None, ℤ, pos}
use Rattle.dh_value.specs.declared.kinds.Kind.{Kind}
use Rattle.dh_value.specs.declared.kinds.Kind.TheVariants as kind
use Rattle.dh_value.specs.declared.words.Word.{Word}
use Rattle.dh_value.specs.Words.{signed}
use Rattle.dh_tree.specs.declared.tables.Dim.{Dim}
use Rattle.dh_plan.specs.declared.operations.Operation.{Operation}
use Rattle.dh_plan.specs.declared.operations.OperationForm.{OperationForm}
use Rattle.dh_plan.specs.declared.operations.OperationForm.TheVariants.{Constant}
use Rattle.dh_address.specs.declared.literals.LiteralPlace.{LiteralPlace}
use Rattle.dh_address.specs.declared.operands.BlockValue.{BlockValue}

-- a word's value, if it is a number from 0 on
abbrev pub natural_in : Kind → (bits : ℕ) → Option ℕ
natural_in kind.Bool bits = None
natural_in (kind.Unsigned w) bits = Some bits
natural_in (kind.Signed w) bits = if nat_lt bits (2 ^ (w - 1)) then Some bits else None

abbrev pub natural : Word → Option ℕ
natural w = natural_in w.kind w.bits

-- a word's value, of whatever sign
abbrev pub whole_in : Kind → (bits : ℕ) → Option ℤ
whole_in kind.Bool bits = None
whole_in (kind.Unsigned w) bits = Some (pos bits)
whole_in (kind.Signed w) bits = if nat_le w 64 then Some (signed w bits) else None

abbrev pub whole_of_word : Word → Option ℤ
whole_of_word w = whole_in w.kind w.bits

abbrev pub constant_form : OperationForm → Option Word
constant_form (Constant word) = Some word
constant_form _ = None

-- a guard would make it one of two words
abbrev pub constant_guarded : (guard : Option ℕ) → OperationForm → Option Word
constant_guarded None form = constant_form form
constant_guarded (Some g) form = None

abbrev pub constant_in : Option Operation → Option Word
constant_in None = None
constant_in (Some o) = constant_guarded o.guard o.form

abbrev pub natural_if : Option Word → Option ℕ
natural_if None = None
natural_if (Some word) = natural word

abbrev pub whole_if_constant : Option Word → Option ℤ
whole_if_constant None = None
whole_if_constant (Some word) = whole_of_word word

abbrev pub literal_in : Option Operation → Option ℕ
literal_in o = natural_if (constant_in o)

abbrev pub literal_at : List Operation → (place : ℕ) → Option ℕ
literal_at os place = literal_in (slice_get os place)

abbrev pub whole_at : List Operation → (place : ℕ) → Option ℤ
whole_at os place = whole_if_constant (constant_in (slice_get os place))

abbrev pub below_size : Option ℕ → (size : ℕ) → Option ℕ
below_size None size = None
below_size (Some n) size = if nat_lt n size then Some n else None

abbrev pub and_then : Option ℕ → (ℕ → Option LiteralPlace) → Option LiteralPlace
and_then None rest = None
and_then (Some n) rest = rest n

-- row and bank of dimensions so far, and of those to come
abbrev pub literal_places : List Dim → List BlockValue → (row bank : ℕ) → Option LiteralPlace
literal_places (d ∷ ds) (i ∷ is) row bank =
    and_then (below_size i.literal d.size) (λ n. literal_places ds is ((row * (d.size / d.banks) % 2 ^ 64 + n / d.banks) % 2 ^ 64) ((bank * d.banks % 2 ^ 64 + n % d.banks) % 2 ^ 64))
literal_places _ _ row bank = Some (record { row = row; bank = bank })
