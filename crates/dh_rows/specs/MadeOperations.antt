-- What the functions of this crate put down, operation by operation, behind the operations that are there: what
-- they promise one another. That it means quotients, rows and banks is said in the other files.
use Rattle.std.specs.Prelude.{◌≡◌, ℕ, zero, suc, ◌+◌, ◌-◌, ◌*◌, ◌/◌, ◌%◌, ◌^◌, ◌==◌, min, nat_le, Bool, true, if◌then◌else◌, List, [], ◌∷◌, ◌++◌, length, Option, Some, None}
use Rattle.std.specs.Int.{leading_zeros, w64}
use Rattle.dh_value.specs.declared.kinds.Kind.{Kind}
use Rattle.dh_value.specs.declared.kinds.Kind.TheVariants as kind
use Rattle.dh_value.specs.declared.operators.Op.{Op}
use Rattle.dh_value.specs.declared.operators.Op.TheVariants as op
use Rattle.dh_value.specs.Words.{with_bits}
use Rattle.dh_tree.specs.declared.tables.Dim.{Dim}
use Rattle.dh_plan.specs.declared.operations.Operation.{Operation}
use Rattle.dh_plan.specs.declared.operations.OperationForm.{OperationForm}
use Rattle.dh_plan.specs.declared.operations.OperationForm.TheVariants.{Constant, Compute, Convert, Select}
use Rattle.dh_rows.specs.declared.dividing.Division.{Division}
use Rattle.dh_rows.specs.declared.dividing.Taking.{Taking}
use Rattle.dh_rows.specs.declared.spanning.Span.{Span}
use Rattle.dh_rows.specs.declared.spreading.RowAndBank.{RowAndBank}

-- operations, and the value that is wanted of them
pub record Made : Type 0 where
  pub operations : List Operation
  pub value : ℕ

-- or perhaps none, which is 0
pub record Summed : Type 0 where
  pub operations : List Operation
  pub sum : Option ℕ

pub record Taken : Type 0 where
  pub operations : List Operation
  pub quotient : Option ℕ
  pub rest : ℕ

pub record Divided : Type 0 where
  pub operations : List Operation
  pub quotient : Option ℕ
  pub remainder : Option ℕ

pub record Spread : Type 0 where
  pub operations : List Operation
  pub row : Option ℕ
  pub bank : Option ℕ

pub record Spanned : Type 0 where
  pub operations : List Operation
  pub span : Option Span

-- the operations are now these, and the value is this one

abbrev pub IsMade : List Operation → (value : ℕ) → Made → Type 0
IsMade os value m = (os ≡ m.operations) × (value ≡ m.value)

abbrev pub IsSummed : List Operation → (sum : Option ℕ) → Summed → Type 0
IsSummed os sum m = (os ≡ m.operations) × (sum ≡ m.sum)

abbrev pub IsTaken : List Operation → Taking → Taken → Type 0
IsTaken os t m = (os ≡ m.operations) × ((t.quotient ≡ m.quotient) × (t.rest ≡ m.rest))

abbrev pub IsDivided : List Operation → Division → Divided → Type 0
IsDivided os d m = (os ≡ m.operations) × ((d.quotient ≡ m.quotient) × (d.remainder ≡ m.remainder))

abbrev pub IsSpreadMade : List Operation → RowAndBank → Spread → Type 0
IsSpreadMade os s m = (os ≡ m.operations) × ((s.row ≡ m.row) × (s.bank ≡ m.bank))

abbrev pub IsSpanned : List Operation → (span : Option Span) → Spanned → Type 0
IsSpanned os s m = (os ≡ m.operations) × (s ≡ m.span)

-- Single operations.

abbrev pub made : List Operation → (value : ℕ) → Made
made os value = record { operations = os; value = value }

abbrev pub summed : List Operation → (sum : Option ℕ) → Summed
summed os sum = record { operations = os; sum = sum }

-- a value that is there
abbrev pub sum_of : Made → Summed
sum_of m = summed m.operations (Some m.value)

abbrev pub pushed : List Operation → (guard : Option ℕ) → OperationForm → Made
pushed os guard form = made (os ++ record { guard = guard; form = form } ∷ []) (length os)

abbrev pub constant_made : List Operation → (width number : ℕ) → Made
constant_made os width number = pushed os None (Constant (with_bits (kind.Unsigned width) number))

abbrev pub computed : List Operation → Op → (left right : ℕ) → Made
computed os o left right = pushed os None (Compute o left right)

abbrev pub converted : List Operation → (inner width : ℕ) → Made
converted os inner width = pushed os None (Convert inner (kind.Unsigned width))

abbrev pub selected : List Operation → (test a b : ℕ) → Made
selected os test a b = pushed os None (Select test a b)

-- an operator whose right operand was just made
abbrev pub computed_with : Op → (left : ℕ) → Made → Made
computed_with o left m = computed m.operations o left m.value

-- Multiples.

-- how many bits a number takes
abbrev pub bits_in : ℕ → ℕ
bits_in n = 64 - leading_zeros w64 n

abbrev pub value_shifted : List Operation → (value by : ℕ) → Made
value_shifted os value by = if by == 0 then made os value else computed_with op.Shl value (constant_made os 6 by)

abbrev pub value_added : List Operation → (sum : Option ℕ) → (value : ℕ) → Made
value_added os None value = made os value
value_added os (Some first) value = computed os op.Add first value

abbrev pub added_with : (sum : Option ℕ) → Made → Made
added_with sum m = value_added m.operations sum m.value

-- with this bit of the factor
abbrev pub bit_scaled : List Operation → (value factor by : ℕ) → (sum : Option ℕ) → Summed
bit_scaled os value factor by sum = if factor / 2 ^ by % 2 == 1 then sum_of (added_with sum (value_shifted os value by)) else summed os sum

-- with all bits below
abbrev pub scaled_below : List Operation → (value factor bits : ℕ) → (sum : Option ℕ) → Summed
scaled_below os value factor zero sum = summed os sum
scaled_below os value factor (suc by) sum = scaled_below (bit_scaled os value factor by sum).operations value factor by (bit_scaled os value factor by sum).sum

abbrev pub scaled : List Operation → (value factor : ℕ) → Summed
scaled os value factor = scaled_below os value factor (bits_in factor) None

-- Quotients.

abbrev pub value_doubled : List Operation → (value : Option ℕ) → Summed
value_doubled os None = summed os None
value_doubled os (Some value) = sum_of (value_shifted os value 1)

abbrev pub taken_last : (rest bit : ℕ) → Summed → Taken
taken_last rest bit t = record { operations = (value_added t.operations t.sum bit).operations; quotient = Some (value_added t.operations t.sum bit).value; rest = rest }

abbrev pub taken_bit : (quotient : Option ℕ) → (rest : ℕ) → Made → Taken
taken_bit quotient rest bit = taken_last rest bit.value (value_doubled bit.operations quotient)

abbrev pub taken_rest : (width : ℕ) → (quotient : Option ℕ) → (holds : ℕ) → Made → Taken
taken_rest width quotient holds rest = taken_bit quotient rest.value (converted rest.operations holds width)

abbrev pub taken_less : (width : ℕ) → (quotient : Option ℕ) → (rest holds : ℕ) → Made → Taken
taken_less width quotient rest holds less = taken_rest width quotient holds (selected less.operations holds less.value rest)

abbrev pub taken_held : (width : ℕ) → (quotient : Option ℕ) → (rest part : ℕ) → Made → Taken
taken_held width quotient rest part holds = taken_less width quotient rest holds.value (computed holds.operations op.Sub rest part)

abbrev pub taken_part : (width : ℕ) → (quotient : Option ℕ) → (rest : ℕ) → Made → Taken
taken_part width quotient rest part = taken_held width quotient rest part.value (computed part.operations op.Ge rest part.value)

abbrev pub constant_taken : List Operation → (width : ℕ) → (quotient : Option ℕ) → (rest part : ℕ) → Taken
constant_taken os width quotient rest part = taken_part width quotient rest (constant_made os width part)

abbrev pub taken_below : List Operation → (width banks bits : ℕ) → (quotient : Option ℕ) → (rest : ℕ) → Taken
taken_below os width banks zero quotient rest = record { operations = os; quotient = quotient; rest = rest }
taken_below os width banks (suc by) quotient rest =
    taken_below (constant_taken os width quotient rest (banks * 2 ^ by % 2 ^ 64)).operations width banks by (constant_taken os width quotient rest (banks * 2 ^ by % 2 ^ 64)).quotient
    (constant_taken os width quotient rest (banks * 2 ^ by % 2 ^ 64)).rest

abbrev pub division : Taken → Divided
division t = record { operations = t.operations; quotient = t.quotient; remainder = Some t.rest }

abbrev pub divided_long : List Operation → (width value banks length : ℕ) → Divided
divided_long os width value banks length = division (taken_below os width banks length None value)

abbrev pub quotient_and : (quotient : ℕ) → Summed → Divided
quotient_and quotient m = record { operations = m.operations; quotient = Some quotient; remainder = m.sum }

abbrev pub low_made : List Operation → (width value length : ℕ) → (banked : Bool) → Summed
low_made os width value length banked =
    if banked then sum_of (converted (converted os value length).operations (converted os value length).value width) else summed os None

abbrev pub divided_by_power : List Operation → (width value length : ℕ) → (banked : Bool) → Divided
divided_by_power os width value length banked =
    quotient_and (computed_with op.Shr value (constant_made os 6 length)).value
    (low_made (computed_with op.Shr value (constant_made os 6 length)).operations width value length banked)

-- which power of two, if it is one
abbrev pub power_in : ℕ → ℕ
power_in n = bits_in n - 1

abbrev pub divided_some : List Operation → (width value : ℕ) → Dim → (banked : Bool) → Divided
divided_some os width value d banked =
    if d.banks == 2 ^ power_in d.banks then divided_by_power os width value (power_in d.banks) banked
    else divided_long os width value d.banks (bits_in (d.size / d.banks - 1))

abbrev pub divided : List Operation → (width value : ℕ) → Dim → (banked : Bool) → Divided
divided os width value d banked =
    if d.banks == 1 then record { operations = os; quotient = Some value; remainder = None }
    else (if nat_le (d.size / d.banks) 1 then record { operations = os; quotient = None; remainder = Some value }
    else divided_some os width value d banked)

-- Rows and banks.

abbrev pub or_zero : List Operation → (width : ℕ) → (value : Option ℕ) → Made
or_zero os width None = constant_made os width 0
or_zero os width (Some value) = made os value

abbrev pub times : List Operation → (sum : Option ℕ) → (factor : ℕ) → Summed
times os None factor = summed os None
times os (Some sum) factor = scaled os sum factor

abbrev pub digit_behind : Summed → (digit : Option ℕ) → Summed
digit_behind m None = m
digit_behind m (Some digit) = sum_of (value_added m.operations m.sum digit)

abbrev pub digit_added : List Operation → (sum : Option ℕ) → (factor : ℕ) → (digit : Option ℕ) → Summed
digit_added os sum factor digit = digit_behind (times os sum factor) digit

abbrev pub row_and : (row : Option ℕ) → Summed → Spread
row_and row m = record { operations = m.operations; row = row; bank = m.sum }

abbrev pub bank_spread : Dim → (banked : Bool) → (bank digit : Option ℕ) → Summed → Spread
bank_spread d banked bank digit row = if banked then row_and row.sum (digit_added row.operations bank d.banks digit) else row_and row.sum (summed row.operations None)

abbrev pub division_spread : Dim → (banked : Bool) → (row bank : Option ℕ) → Divided → Spread
division_spread d banked row bank m = bank_spread d banked bank m.remainder (digit_added m.operations row (d.size / d.banks) m.quotient)

abbrev pub dim_spread : List Operation → (width : ℕ) → Dim → (index : ℕ) → (banked : Bool) → (row bank : Option ℕ) → Spread
dim_spread os width d index banked row bank = division_spread d banked row bank (divided (converted os index width).operations width (converted os index width).value d banked)

abbrev pub all_spread : List Operation → (width : ℕ) → List Dim → (indices : List ℕ) → (banked : Bool) → (row bank : Option ℕ) → Spread
all_spread os width (d ∷ ds) (i ∷ is) banked row bank =
    all_spread (dim_spread os width d i banked row bank).operations width ds is banked (dim_spread os width d i banked row bank).row (dim_spread os width d i banked row bank).bank
all_spread os width _ _ banked row bank = record { operations = os; row = row; bank = bank }

-- Tests.

abbrev pub bounded : List Operation → (width value bound : ℕ) → Summed
bounded os width value bound = if nat_le (2 ^ width) bound then summed os None else sum_of (computed_with op.Lt value (constant_made os width bound))

abbrev pub value_tested : List Operation → Kind → (value size : ℕ) → Summed
value_tested os kind.Bool value size = summed os None
value_tested os (kind.Unsigned width) value size = bounded os width value size
value_tested os (kind.Signed width) value size = bounded (converted os value width).operations width (converted os value width).value (min size (2 ^ (width - 1)))

-- Indices behind a view.

-- how many bits a moved index takes: two more than the size of its dimension
abbrev pub moved_width : (size : ℕ) → ℕ
moved_width size = 66 - leading_zeros w64 size

abbrev pub moved_sum : (index : ℕ) → Summed → Made
moved_sum index s = value_added s.operations s.sum index

abbrev pub moved_index : (factor offset : ℕ) → Made → Made
moved_index factor offset index = moved_sum index.value (scaled index.operations offset factor)

abbrev pub moved_offset : (width factor index : ℕ) → Made → Made
moved_offset width factor index offset = moved_index factor offset.value (converted offset.operations index width)

abbrev pub moved : List Operation → (width factor offset index : ℕ) → Made
moved os width factor offset index = moved_offset width factor index (converted os offset width)

-- cut to the width, so that it is a word of it whatever the indices are
abbrev pub dealt_cut : (width : ℕ) → Made → Made
dealt_cut width number = converted number.operations number.value width

abbrev pub dealt_last : (width : ℕ) → Summed → Made
dealt_last width number = dealt_cut width (or_zero number.operations width number.sum)

abbrev pub dealt_row : (width banks : ℕ) → (remainder : Option ℕ) → Summed → Made
dealt_row width banks remainder row = dealt_last width (digit_added row.operations row.sum banks remainder)

abbrev pub dealt_divided : (width copies : ℕ) → Dim → (copy : ℕ) → Divided → Made
dealt_divided width copies part copy d = dealt_row width part.banks d.remainder (digit_added d.operations d.quotient copies (Some copy))

abbrev pub dealt_element : (width copies : ℕ) → Dim → (copy : ℕ) → Made → Made
dealt_element width copies part copy index = dealt_divided width copies part copy (divided index.operations width index.value part true)

abbrev pub dealt_copy : (width copies : ℕ) → Dim → (index : ℕ) → Made → Made
dealt_copy width copies part index copy = dealt_element width copies part copy.value (converted copy.operations index width)

abbrev pub dealt : List Operation → (width copies : ℕ) → Dim → (copy index : ℕ) → Made
dealt os width copies part copy index = dealt_copy width copies part index (converted os copy width)

-- Small offsets.

abbrev pub span_of : Kind → (value size : ℕ) → Span
span_of k value size = record { kind = k; value = value; size = size }

abbrev pub no_span : List Operation → Spanned
no_span os = record { operations = os; span = None }

abbrev pub centred_bits : (width bound : ℕ) → Made → Made
centred_bits width bound bits = computed_with op.Add bits.value (constant_made bits.operations width bound)

abbrev pub centred : List Operation → (width value bound : ℕ) → Made
centred os width value bound = centred_bits width bound (converted os value width)

abbrev pub span_centred : (width bound : ℕ) → Made → Spanned
span_centred width bound m = record { operations = m.operations; span = Some (span_of (kind.Unsigned width) m.value ((bound * 2 % 2 ^ 64 + 1) % 2 ^ 64)) }

abbrev pub centred_span : List Operation → (width value bound : ℕ) → Spanned
centred_span os width value bound = if nat_le (2 ^ (width - 1)) bound then no_span os else span_centred width bound (centred os width value bound)

abbrev pub spanned : List Operation → Kind → (value bound : ℕ) → Spanned
spanned os kind.Bool value bound = no_span os
spanned os (kind.Unsigned width) value bound = record { operations = os; span = Some (span_of (kind.Unsigned width) value ((bound + 1) % 2 ^ 64)) }
spanned os (kind.Signed width) value bound = centred_span os width value bound

-- What each function promises of its result, where the list was the one and is now the other.

abbrev pub TakesPart : (old new : List Operation) → (width : ℕ) → Taking → (part : ℕ) → Taking → Type 0
TakesPart old new width before part t = IsTaken new t (constant_taken old width before.quotient before.rest part)

abbrev pub DividesLong : (old new : List Operation) → (width value banks length : ℕ) → Division → Type 0
DividesLong old new width value banks length d = IsDivided new d (divided_long old width value banks length)

abbrev pub DividesByPower : (old new : List Operation) → (width value length : ℕ) → (banked : Bool) → Division → Type 0
DividesByPower old new width value length banked d = IsDivided new d (divided_by_power old width value length banked)

abbrev pub Divides : (old new : List Operation) → (width value : ℕ) → Dim → (banked : Bool) → Division → Type 0
Divides old new width value dim banked d = IsDivided new d (divided old width value dim banked)

abbrev pub SpreadsOne : (old new : List Operation) → (width : ℕ) → Dim → (index : ℕ) → (banked : Bool) → RowAndBank → RowAndBank → Type 0
SpreadsOne old new width dim index banked before s = IsSpreadMade new s (dim_spread old width dim index banked before.row before.bank)

abbrev pub SpreadsEach : (old new : List Operation) → (width : ℕ) → List Dim → (indices : List ℕ) → (banked : Bool) → RowAndBank → Type 0
SpreadsEach old new width dims indices banked s = IsSpreadMade new s (all_spread old width dims indices banked None None)
