-- The values that wires show, by what registers, ports and other wires show.
use Rattle.std.specs.Prelude.{ℕ, ◌+◌, ◌-◌, ◌%◌, ◌^◌, ◌==◌, ◌&&◌, ◌||◌, not, Bool, false, if◌then◌else◌, int_lt, int_le, List, [], ◌∷◌, slice_index}
use Rattle.dh_tree.specs.declared.tables.MemEntry.{MemEntry}
use Rattle.dh_value.specs.declared.kinds.Kind.{Kind}
use Rattle.dh_value.specs.declared.operators.Op.{Op}
use Rattle.dh_value.specs.declared.operators.Op.TheVariants.{Shr}
use Rattle.dh_value.specs.Operations.{binary_of}
use Rattle.dh_value.specs.Words.{value_in, with_bits, word_of}
use Rattle.dh_net.specs.BankPorts.{port_number}
use Rattle.dh_net.specs.Clock.{form_value, shifted_signed}
use Rattle.dh_net.specs.declared.nets.CellForm.{CellForm}
use Rattle.dh_cells.specs.declared.trees.Tested.{Tested}
use Rattle.dh_cells.specs.PlainCircuits.{PlainCircuit}
use Rattle.dh_cells.specs.Settled.{Signals, shown}

-- the bit of a truth
abbrev pub bit : Bool → ℕ
bit t = if t then 1 else 0

-- the wire shows 1
abbrev pub is_one : Signals → (wire : ℕ) → Bool
is_one x wire = shown x wire == 1

-- what a cell of this form behind those of a circuit shows
abbrev pub form_shown : PlainCircuit → (width : ℕ) → CellForm → Signals → ℕ
form_shown d width form = λ x. form_value d.table d.cells x.registers x.held x.wires width form

abbrev pub number_shown : (bits : ℕ) → Signals → ℕ
number_shown bits = λ x. bits

abbrev pub register_shown : (register : ℕ) → Signals → ℕ
register_shown register = λ x. slice_index x.registers register

-- the datum that a port of a bank holds
abbrev pub held_datum_shown : List MemEntry → (memory bank port : ℕ) → Signals → ℕ
held_datum_shown table memory bank port = λ x. slice_index x.held (port_number table memory bank port)

-- Truths, each on one bit.

abbrev pub not_shown : (a : ℕ) → Signals → ℕ
not_shown a = λ x. bit (not (is_one x a))

abbrev pub both_shown : (a b : ℕ) → Signals → ℕ
both_shown a b = λ x. bit (is_one x a && is_one x b)

abbrev pub either_shown : (a b : ℕ) → Signals → ℕ
either_shown a b = λ x. bit (is_one x a || is_one x b)

-- whether a wire shows a number
abbrev pub match_shown : (a number : ℕ) → Signals → ℕ
match_shown a number = λ x. bit (shown x a == number)

abbrev pub any_one : Signals → List ℕ → Bool
any_one x [] = false
any_one x (w ∷ ws) = is_one x w || any_one x ws

-- whether any of these wires shows 1
abbrev pub any_shown : List ℕ → Signals → ℕ
any_shown ws = λ x. bit (any_one x ws)

-- Numbers.

-- one more, modulo 2^width
abbrev pub more_shown : (width a : ℕ) → Signals → ℕ
more_shown width a = λ x. (shown x a + 1) % 2 ^ width

-- whether the one value of a kind is less than the other
abbrev pub less_shown : Kind → (a b : ℕ) → Signals → ℕ
less_shown k a b = λ x. bit (int_lt (value_in k (shown x a)) (value_in k (shown x b)))

-- the bits of what an operator makes of two values of these kinds
abbrev pub operator_shown : Op → (left_kind right_kind : Kind) → (a b : ℕ) → Signals → ℕ
operator_shown op left_kind right_kind a b = λ x. (binary_of op (with_bits left_kind (shown x a)) (with_bits right_kind (shown x b))).bits

-- the same of one kind
abbrev pub alike_shown : Op → Kind → (a b : ℕ) → Signals → ℕ
alike_shown op k a b = operator_shown op k k a b

-- copies of the sign of a word of this width: what is left of it when all its other bits are shifted out
abbrev pub signs_shown : (width a : ℕ) → Signals → ℕ
signs_shown width a = λ x. shifted_signed Shr width (shown x a) (width - 1)

-- whether the one value of a kind is not greater than the other
abbrev pub at_most_shown : Kind → (a b : ℕ) → Signals → ℕ
at_most_shown k a b = λ x. bit (int_le (value_in k (shown x a)) (value_in k (shown x b)))

-- the bits in a kind of a value of another
abbrev pub converted_shown : (from to : Kind) → (a : ℕ) → Signals → ℕ
converted_shown from to a = λ x. (word_of to (value_in from (shown x a))).bits

-- Choices.

abbrev pub choice_shown : (test a b : ℕ) → Signals → ℕ
choice_shown test a b = λ x. if is_one x test then shown x a else shown x b

-- 0 where the guard is not 1
abbrev pub guarded_shown : (guard a : ℕ) → Signals → ℕ
guarded_shown guard a = λ x. if is_one x guard then shown x a else 0

-- the value of the first test that shows 1
abbrev pub first_of : Signals → List Tested → (default : ℕ) → ℕ
first_of x [] default = default
first_of x (t ∷ ts) default = if is_one x t.test then shown x t.value else first_of x ts default

abbrev pub first_shown : List Tested → (default : ℕ) → Signals → ℕ
first_shown ts default = λ x. first_of x ts (shown x default)
