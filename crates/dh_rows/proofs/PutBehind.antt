-- Each function puts its operations behind those that are there, whatever it is given; and they are plain.
use Rattle.std.proofs.Common.{◌≡◌, ℕ, zero, suc, refl, ◌-◌, ◌*◌, ◌/◌, ◌%◌, ◌^◌, ◌==◌, nat_le, Bool, true, false, List, Some, None}
use Rattle.std.specs.Prelude.{Option, if◌then◌else◌}
use Rattle.dh_value.specs.declared.kinds.Kind.TheVariants as kind
use Rattle.dh_value.specs.declared.operators.Op.{Op}
use Rattle.dh_value.specs.declared.operators.Op.TheVariants as op
use Rattle.dh_value.specs.Words.{with_bits}
use Rattle.dh_tree.specs.declared.tables.Dim.{Dim}
use Rattle.dh_plan.specs.declared.operations.Operation.{Operation}
use Rattle.dh_plan.specs.declared.operations.OperationForm.TheVariants.{Constant}
use Rattle.dh_rows.specs.Readings.{GrowsPlain, is_cheap}
use Rattle.dh_rows.specs.MadeOperations.{Made, Summed, Taken, Divided, made, summed, sum_of, constant_made, computed, converted, selected, computed_with, bits_in, power_in, value_shifted, value_added, added_with, bit_scaled, scaled_below, value_doubled, constant_taken, taken_last, taken_bit, taken_rest, taken_less, taken_held, taken_part, taken_below, divided_long, low_made, divided_by_power, divided_some, divided, times, digit_behind, digit_added, bank_spread, division_spread, dim_spread}
use Rattle.dh_rows.proofs.Growing.{plain_self, plain_on, plain_pushed}

-- two operations
pub with_behind : (os : List Operation) (o : Op) (left width number : ℕ) → is_cheap o ≡ true → GrowsPlain os (computed_with o left (constant_made os width number)).operations
with_behind os o left width number cheap = plain_on os _ _ (plain_pushed os (Constant (with_bits (kind.Unsigned width) number)) refl) (plain_pushed (constant_made os width number).operations _ cheap)

pub shifted_behind : (os : List Operation) (value by : ℕ) → GrowsPlain os (value_shifted os value by).operations
shifted_behind os value by = of (by == 0)
  where
    of : (t : Bool) → GrowsPlain os (if t then made os value else computed_with op.Shl value (constant_made os 6 by)).operations
    of true = plain_self os
    of false = with_behind os op.Shl value 6 by refl

pub added_behind : (os : List Operation) (sum : Option ℕ) (value : ℕ) → GrowsPlain os (value_added os sum value).operations
added_behind os None value = plain_self os
added_behind os (Some first) value = plain_pushed os _ refl

pub added_with_behind : (os : List Operation) (sum : Option ℕ) (m : Made) → GrowsPlain os m.operations → GrowsPlain os (added_with sum m).operations
added_with_behind os sum m g = plain_on os m.operations _ g (added_behind m.operations sum m.value)

pub bit_behind : (os : List Operation) (value factor by : ℕ) (sum : Option ℕ) → GrowsPlain os (bit_scaled os value factor by sum).operations
bit_behind os value factor by sum = of (factor / 2 ^ by % 2 == 1)
  where
    of : (t : Bool) → GrowsPlain os (if t then sum_of (added_with sum (value_shifted os value by)) else summed os sum).operations
    of true = added_with_behind os sum (value_shifted os value by) (shifted_behind os value by)
    of false = plain_self os

pub below_behind : (os : List Operation) (value factor bits : ℕ) (sum : Option ℕ) → GrowsPlain os (scaled_below os value factor bits sum).operations
below_behind os value factor zero sum = plain_self os
below_behind os value factor (suc by) sum =
    plain_on os (bit_scaled os value factor by sum).operations (scaled_below os value factor (suc by) sum).operations (bit_behind os value factor by sum)
    (below_behind (bit_scaled os value factor by sum).operations value factor by (bit_scaled os value factor by sum).sum)

pub twice_behind : (os : List Operation) (value : Option ℕ) → GrowsPlain os (value_doubled os value).operations
twice_behind os None = plain_self os
twice_behind os (Some value) = shifted_behind os value 1

pub last_behind : (rest bit : ℕ) (t : Summed) → GrowsPlain t.operations (taken_last rest bit t).operations
last_behind rest bit t = added_behind t.operations t.sum bit

pub bit_taken_behind : (quotient : Option ℕ) (rest : ℕ) (bit : Made) → GrowsPlain bit.operations (taken_bit quotient rest bit).operations
bit_taken_behind quotient rest bit = plain_on bit.operations (value_doubled bit.operations quotient).operations (taken_bit quotient rest bit).operations (twice_behind bit.operations quotient) (last_behind rest bit.value (value_doubled bit.operations quotient))

pub rest_behind : (width : ℕ) (quotient : Option ℕ) (holds : ℕ) (rest : Made) → GrowsPlain rest.operations (taken_rest width quotient holds rest).operations
rest_behind width quotient holds rest = plain_on rest.operations (converted rest.operations holds width).operations _ (plain_pushed rest.operations _ refl) (bit_taken_behind quotient rest.value (converted rest.operations holds width))

pub less_behind : (width : ℕ) (quotient : Option ℕ) (rest holds : ℕ) (less : Made) → GrowsPlain less.operations (taken_less width quotient rest holds less).operations
less_behind width quotient rest holds less =
    plain_on less.operations (selected less.operations holds less.value rest).operations _ (plain_pushed less.operations _ refl) (rest_behind width quotient holds (selected less.operations holds less.value rest))

pub held_behind : (width : ℕ) (quotient : Option ℕ) (rest part : ℕ) (held : Made) → GrowsPlain held.operations (taken_held width quotient rest part held).operations
held_behind width quotient rest part held =
    plain_on held.operations (computed held.operations op.Sub rest part).operations _ (plain_pushed held.operations _ refl) (less_behind width quotient rest held.value (computed held.operations op.Sub rest part))

pub part_behind : (width : ℕ) (quotient : Option ℕ) (rest : ℕ) (part : Made) → GrowsPlain part.operations (taken_part width quotient rest part).operations
part_behind width quotient rest part =
    plain_on part.operations (computed part.operations op.Ge rest part.value).operations _ (plain_pushed part.operations _ refl) (held_behind width quotient rest part.value (computed part.operations op.Ge rest part.value))

pub taken_behind : (os : List Operation) (width : ℕ) (quotient : Option ℕ) (rest part : ℕ) → GrowsPlain os (constant_taken os width quotient rest part).operations
taken_behind os width quotient rest part = plain_on os (constant_made os width part).operations _ (plain_pushed os _ refl) (part_behind width quotient rest (constant_made os width part))

pub long_behind : (os : List Operation) (width banks bits : ℕ) (quotient : Option ℕ) (rest : ℕ) → GrowsPlain os (taken_below os width banks bits quotient rest).operations
long_behind os width banks zero quotient rest = plain_self os
long_behind os width banks (suc by) quotient rest =
    turned (constant_taken os width quotient rest (banks * 2 ^ by % 2 ^ 64)) (taken_behind os width quotient rest (banks * 2 ^ by % 2 ^ 64))
    (long_behind (constant_taken os width quotient rest (banks * 2 ^ by % 2 ^ 64)).operations width banks by (constant_taken os width quotient rest (banks * 2 ^ by % 2 ^ 64)).quotient (constant_taken os width quotient rest (banks * 2 ^ by % 2 ^ 64)).rest)
  where
    turned : (t : Taken) → GrowsPlain os t.operations → GrowsPlain t.operations (taken_below t.operations width banks by t.quotient t.rest).operations → GrowsPlain os (taken_below t.operations width banks by t.quotient t.rest).operations
    turned t g h = plain_on os t.operations _ g h

pub low_behind : (os : List Operation) (width value bits : ℕ) (banked : Bool) → GrowsPlain os (low_made os width value bits banked).operations
low_behind os width value bits false = plain_self os
low_behind os width value bits true = plain_on os _ _ (plain_pushed os _ refl) (plain_pushed _ _ refl)

pub power_behind : (os : List Operation) (width value bits : ℕ) (banked : Bool) → GrowsPlain os (divided_by_power os width value bits banked).operations
power_behind os width value bits banked = plain_on os _ _ (with_behind os op.Shr value 6 bits refl) (low_behind _ width value bits banked)

pub some_behind : (os : List Operation) (width value : ℕ) (d : Dim) (banked : Bool) → GrowsPlain os (divided_some os width value d banked).operations
some_behind os width value d banked = of (d.banks == 2 ^ power_in d.banks)
  where
    of : (t : Bool) → GrowsPlain os (if t then divided_by_power os width value (power_in d.banks) banked else divided_long os width value d.banks (bits_in (d.size / d.banks - 1))).operations
    of true = power_behind os width value (power_in d.banks) banked
    of false = long_behind os width d.banks (bits_in (d.size / d.banks - 1)) None value

pub divided_behind : (os : List Operation) (width value : ℕ) (d : Dim) (banked : Bool) → GrowsPlain os (divided os width value d banked).operations
divided_behind os width value d banked = of (d.banks == 1) (nat_le (d.size / d.banks) 1)
  where
    of : (t s : Bool)
        → GrowsPlain os (if t then record { operations = os; quotient = Some value; remainder = None }
        else (if s then record { operations = os; quotient = None; remainder = Some value } else divided_some os width value d banked)).operations
    of true s = plain_self os
    of false true = plain_self os
    of false false = some_behind os width value d banked

pub times_behind : (os : List Operation) (sum : Option ℕ) (factor : ℕ) → GrowsPlain os (times os sum factor).operations
times_behind os None factor = plain_self os
times_behind os (Some sum) factor = below_behind os sum factor (bits_in factor) None

pub behind_behind : (m : Summed) (digit : Option ℕ) → GrowsPlain m.operations (digit_behind m digit).operations
behind_behind m None = plain_self m.operations
behind_behind m (Some digit) = added_behind m.operations m.sum digit

pub digit_put_behind : (os : List Operation) (sum : Option ℕ) (factor : ℕ) (digit : Option ℕ) → GrowsPlain os (digit_added os sum factor digit).operations
digit_put_behind os sum factor digit = plain_on os (times os sum factor).operations _ (times_behind os sum factor) (behind_behind (times os sum factor) digit)

pub bank_behind : (d : Dim) (banked : Bool) (bank digit : Option ℕ) (row : Summed) → GrowsPlain row.operations (bank_spread d banked bank digit row).operations
bank_behind d false bank digit row = plain_self row.operations
bank_behind d true bank digit row = digit_put_behind row.operations bank d.banks digit

pub parts_behind : (d : Dim) (banked : Bool) (row bank : Option ℕ) (m : Divided) → GrowsPlain m.operations (division_spread d banked row bank m).operations
parts_behind d banked row bank m =
    plain_on m.operations (digit_added m.operations row (d.size / d.banks) m.quotient).operations _ (digit_put_behind m.operations row (d.size / d.banks) m.quotient)
    (bank_behind d banked bank m.remainder (digit_added m.operations row (d.size / d.banks) m.quotient))

pub dim_behind : (os : List Operation) (width : ℕ) (d : Dim) (index : ℕ) (banked : Bool) (row bank : Option ℕ) → GrowsPlain os (dim_spread os width d index banked row bank).operations
dim_behind os width d index banked row bank =
    plain_on os (converted os index width).operations _ (plain_pushed os _ refl)
    (plain_on (converted os index width).operations (divided (converted os index width).operations width (converted os index width).value d banked).operations _
    (divided_behind (converted os index width).operations width (converted os index width).value d banked) (parts_behind d banked row bank (divided (converted os index width).operations width (converted os index width).value d banked)))
