-- The same of the functions that take dimensions and kinds: divisions, rows and banks, and tests.
use Rattle.std.proofs.Common.{◌≡◌, ℕ, ◌-◌, ◌/◌, ◌^◌, ◌<◌, ◌≤◌, ◌==◌, nat_le, min, Bool, true, false, List, Some, None, refl, arith, length}
use Rattle.std.specs.Prelude.{Option, if◌then◌else◌, [], ◌∷◌}
use Rattle.std.specs.List.{AllByRecursion}
use Rattle.std.proofs.lemmas.Bool.Decides.{nat_tests}
use Rattle.dh_value.specs.declared.kinds.Kind.{Kind}
use Rattle.dh_value.specs.declared.kinds.Kind.TheVariants as kind
use Rattle.dh_value.specs.declared.operators.Op.TheVariants as op
use Rattle.dh_value.specs.Words.{IsWidth, IsInteger}
use Rattle.dh_tree.specs.declared.tables.Dim.{Dim}
use Rattle.dh_tree.specs.Shapes.{IsDim}
use Rattle.dh_plan.specs.declared.operations.Operation.{Operation}
use Rattle.dh_rows.specs.Readings.{Readings, AddsOperations, IsReadingValue, IsValueOrNone}
use Rattle.dh_rows.specs.RowsShown.{IsInput}
use Rattle.dh_rows.specs.MadeOperations.{Summed, Divided, Spread, summed, sum_of, constant_made, converted, computed_with, bits_in, power_in, divided_by_power, divided_long, divided_some, divided, digit_added, bank_spread, division_spread, dim_spread, all_spread, bounded, value_tested}
use Rattle.dh_rows.proofs.Growing.{grown_length, adds_self, adds_on, obeys_before, earlier_later}
use Rattle.dh_rows.proofs.PutDown.{MakesAny, MakesDivided, begun_on, kept_maybe, none_any, any_of, makes_constant, makes_converted, makes_with, makes_digit, makes_divided_by_power, makes_divided_long}
use Rattle.dh_rows.proofs.BitsOfNumbers.{part_fits, power_most, power_least}

pub record MakesSpread (x : Readings) (clock : ℕ) (os : List Operation) (m : Spread) (k : Kind) : Type 0 where
  pub adds : AddsOperations x clock os m.operations
  pub row : IsValueOrNone x clock m.operations k m.row
  pub bank : IsValueOrNone x clock m.operations k m.bank

-- a dimension whose numbers have a width
pub record FitsWidth (width : ℕ) (d : Dim) : Type 0 where
  pub dim : IsDim d
  pub small : d.size < 2 ^ width

equal : (a b : ℕ) → (a == b) ≡ true → a ≡ b
equal a b e = grind (arith, nat_tests)

other : (a b : ℕ) → (a == b) ≡ false → a ≡ b → ⊥
other a b e h = grind (arith, nat_tests)

above : (a b : ℕ) → nat_le a b ≡ false → b < a
above a b e = grind (arith, nat_tests)

module _ (x : Readings) (clock : ℕ) where
  pub inputs_later : (a b : List Operation) → AddsOperations x clock a b → (vs : List ℕ) → AllByRecursion (λ v. IsInput x clock a v) vs → AllByRecursion (λ v. IsInput x clock b v) vs
  inputs_later a b g [] h = tt
  inputs_later a b g (v ∷ vs) h = ((λ y. earlier_later x clock (length a) (length b) v (grown_length a b g.grows) (h.0 (obeys_before x a b g.grows y))), inputs_later a b g vs h.1)

-- Tests.

module _ (x : Readings) (clock : ℕ) where
  makes_bounded : (os : List Operation) → x.first ≤ length os → (width value bound : ℕ) → IsWidth width → IsReadingValue x clock os (kind.Unsigned width) value → MakesAny x clock os (bounded os width value bound) kind.Bool
  makes_bounded os begun width value bound sized g = of (nat_le (2 ^ width) bound) refl
    where
      of : (t : Bool) → nat_le (2 ^ width) bound ≡ t → MakesAny x clock os (if t then summed os None else sum_of (computed_with op.Lt value (constant_made os width bound))) kind.Bool
      of true e = none_any x clock os kind.Bool None tt
      of false e =
          any_of x clock os _ kind.Bool
          (makes_with x clock os begun op.Lt value (constant_made os width bound) (kind.Unsigned width) (kind.Unsigned width) kind.Bool refl refl refl g
          (makes_constant x clock os begun width bound sized (above (2 ^ width) bound e)))

  pub makes_tested : (os : List Operation) → x.first ≤ length os → (k : Kind) (value size : ℕ) → IsInteger k → IsReadingValue x clock os k value → MakesAny x clock os (value_tested os k value size) kind.Bool
  makes_tested os begun kind.Bool value size sized g = elim sized [ ]
  makes_tested os begun (kind.Unsigned width) value size sized g = makes_bounded os begun width value size sized g
  makes_tested os begun (kind.Signed width) value size sized g =
      let c = makes_converted x clock os begun value width sized (λ y. (g y).earlier) in
      let t = makes_bounded (converted os value width).operations (begun_on x clock os _ c.adds begun) width (converted os value width).value (min size (2 ^ (width - 1))) sized c.value in
      record { adds = adds_on x clock os _ _ c.adds t.adds; sum = t.sum }

-- Rows and banks.

module _ (x : Readings) (clock width : ℕ) (sized : IsWidth width) where
  abbrev own : Kind
  own = kind.Unsigned width

  makes_some : (os : List Operation) → x.first ≤ length os → (value : ℕ) (d : Dim) (banked : Bool) → FitsWidth width d → (d.banks ≡ 1 → ⊥) → IsReadingValue x clock os own value
      → MakesDivided x clock os (divided_some os width value d banked) own
  makes_some os begun value d banked h more g = of (d.banks == 2 ^ power_in d.banks) refl
    where
      of : (t : Bool) → (d.banks == 2 ^ power_in d.banks) ≡ t
          → MakesDivided x clock os (if t then divided_by_power os width value (power_in d.banks) banked else divided_long os width value d.banks (bits_in (d.size / d.banks - 1))) own
      of true e = makes_divided_by_power x clock width sized os begun value (power_in d.banks) banked (power_least d.banks (equal d.banks (2 ^ power_in d.banks) e) more) (power_most d.banks) g
      of false e = makes_divided_long x clock width sized os begun value d.banks (bits_in (d.size / d.banks - 1)) (λ by l. part_fits d width by h.dim h.small sized.1 l) g

  pub makes_divided : (os : List Operation) → x.first ≤ length os → (value : ℕ) (d : Dim) (banked : Bool) → FitsWidth width d → IsReadingValue x clock os own value
      → MakesDivided x clock os (divided os width value d banked) own
  makes_divided os begun value d banked h g = of (d.banks == 1) refl
    where
      rows : (t : Bool) → (d.banks ≡ 1 → ⊥)
          → MakesDivided x clock os (if t then record { operations = os; quotient = None; remainder = Some value } else divided_some os width value d banked) own
      rows true more = record { adds = adds_self x clock os; quotient = tt; remainder = g }
      rows false more = makes_some os begun value d banked h more g

      of : (t : Bool) → (d.banks == 1) ≡ t
          → MakesDivided x clock os (if t then record { operations = os; quotient = Some value; remainder = None }
          else (if nat_le (d.size / d.banks) 1 then record { operations = os; quotient = None; remainder = Some value } else divided_some os width value d banked)) own
      of true e = record { adds = adds_self x clock os; quotient = g; remainder = tt }
      of false e = rows (nat_le (d.size / d.banks) 1) (other d.banks 1 e)

  spread_over : (os m : List Operation) (s : Spread) → AddsOperations x clock os m → MakesSpread x clock m s own → MakesSpread x clock os s own
  spread_over os m s g h = record { adds = adds_on x clock os m s.operations g h.adds; row = h.row; bank = h.bank }

  makes_bank : (os : List Operation) → x.first ≤ length os → (d : Dim) (banked : Bool) (bank digit : Option ℕ) (row : Summed) → MakesAny x clock os row own → IsValueOrNone x clock os own bank
      → IsValueOrNone x clock os own digit → MakesSpread x clock os (bank_spread d banked bank digit row) own
  makes_bank os begun d false bank digit row h b g = record { adds = h.adds; row = h.sum; bank = tt }
  makes_bank os begun d true bank digit row h b g =
      let later = begun_on x clock os row.operations h.adds begun in
      let n = makes_digit x clock width sized row.operations later bank d.banks digit (kept_maybe x clock os row.operations own bank h.adds b) (kept_maybe x clock os row.operations own digit h.adds g) in
      record { adds = adds_on x clock os row.operations _ h.adds n.adds; row = kept_maybe x clock row.operations _ own row.sum n.adds h.sum; bank = n.sum }

  makes_parts : (os : List Operation) → x.first ≤ length os → (d : Dim) (banked : Bool) (row bank : Option ℕ) (m : Divided) → MakesDivided x clock os m own → IsValueOrNone x clock os own row
      → IsValueOrNone x clock os own bank → MakesSpread x clock os (division_spread d banked row bank m) own
  makes_parts os begun d banked row bank m h r b =
      let later = begun_on x clock os m.operations h.adds begun in
      spread_over os m.operations _ h.adds
      (makes_bank m.operations later d banked bank m.remainder (digit_added m.operations row (d.size / d.banks) m.quotient)
      (makes_digit x clock width sized m.operations later row (d.size / d.banks) m.quotient (kept_maybe x clock os m.operations own row h.adds r) h.quotient)
      (kept_maybe x clock os m.operations own bank h.adds b) h.remainder)

  pub makes_dim : (os : List Operation) → x.first ≤ length os → (d : Dim) (index : ℕ) (banked : Bool) (row bank : Option ℕ) → FitsWidth width d → IsInput x clock os index → IsValueOrNone x clock os own row
      → IsValueOrNone x clock os own bank → MakesSpread x clock os (dim_spread os width d index banked row bank) own
  makes_dim os begun d index banked row bank h i r b =
      let c = makes_converted x clock os begun index width sized i in
      let later = begun_on x clock os _ c.adds begun in
      spread_over os (converted os index width).operations _ c.adds
      (makes_parts (converted os index width).operations later d banked row bank (divided (converted os index width).operations width (converted os index width).value d banked)
      (makes_divided (converted os index width).operations later (converted os index width).value d banked h c.value)
      (kept_maybe x clock os _ own row c.adds r) (kept_maybe x clock os _ own bank c.adds b))

  all_turned : (os : List Operation) (s : Spread) (ds : List Dim) (is : List ℕ) (banked : Bool) → MakesSpread x clock os s own
      → MakesSpread x clock s.operations (all_spread s.operations width ds is banked s.row s.bank) own → MakesSpread x clock os (all_spread s.operations width ds is banked s.row s.bank) own
  all_turned os s ds is banked h rest = spread_over os s.operations _ h.adds rest

  pub makes_all : (ds : List Dim) (is : List ℕ) (os : List Operation) → x.first ≤ length os → (banked : Bool) (row bank : Option ℕ) → AllByRecursion (FitsWidth width) ds
      → AllByRecursion (λ i. IsInput x clock os i) is → IsValueOrNone x clock os own row → IsValueOrNone x clock os own bank → MakesSpread x clock os (all_spread os width ds is banked row bank) own
  makes_all [] [] os begun banked row bank h g r b = record { adds = adds_self x clock os; row = r; bank = b }
  makes_all [] (i ∷ is) os begun banked row bank h g r b = record { adds = adds_self x clock os; row = r; bank = b }
  makes_all (d ∷ ds) [] os begun banked row bank h g r b = record { adds = adds_self x clock os; row = r; bank = b }
  makes_all (d ∷ ds) (i ∷ is) os begun banked row bank h g r b =
      let s = makes_dim os begun d i banked row bank h.0 g.0 r b in
      all_turned os (dim_spread os width d i banked row bank) ds is banked s
      (makes_all ds is (dim_spread os width d i banked row bank).operations (begun_on x clock os _ s.adds begun) banked (dim_spread os width d i banked row bank).row (dim_spread os width d i banked row bank).bank h.1
      (inputs_later x clock os _ s.adds is g.1) s.row s.bank)
