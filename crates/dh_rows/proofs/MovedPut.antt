-- Indices behind a view, and what tells of small offsets: all that is put down is plain, of values that are there, and each
-- value that is given is of its kind. Function by function, each from those that it calls.
use Rattle.std.proofs.Common.{◌≡◌, ℕ, ◌-◌, ◌^◌, ◌<◌, ◌≤◌, nat_le, Bool, true, false, List, Some, None, refl, arith, length, pow_mono}
use Rattle.std.specs.Prelude.{Option, if◌then◌else◌}
use Rattle.std.proofs.lemmas.Bool.Decides.{nat_tests}
use Rattle.dh_value.specs.declared.kinds.Kind.{Kind}
use Rattle.dh_value.specs.declared.kinds.Kind.TheVariants as kind
use Rattle.dh_value.specs.declared.operators.Op.TheVariants as op
use Rattle.dh_value.specs.Words.{IsWidth, IsInteger}
use Rattle.dh_tree.specs.declared.tables.Dim.{Dim}
use Rattle.dh_plan.specs.declared.operations.Operation.{Operation}
use Rattle.dh_rows.specs.Readings.{Readings, AddsOperations, GrowsPlain, IsReadingValue}
use Rattle.dh_rows.specs.RowsShown.{IsInput, SpanStands}
use Rattle.dh_rows.specs.MadeOperations.{Summed, Spanned, constant_made, converted, scaled, bits_in, divided, digit_added, or_zero, moved_sum, moved, dealt, centred, span_centred, no_span, centred_span, spanned}
use Rattle.dh_rows.proofs.Growing.{grown_length, obeys_before, earlier_later, adds_self, adds_on, plain_self, plain_on, plain_pushed}
use Rattle.dh_rows.proofs.PutBehind.{with_behind, added_behind, below_behind, divided_behind, digit_put_behind}
use Rattle.dh_rows.proofs.PutDown.{Makes, MakesAny, begun_on, kept, kept_maybe, made_on, makes_constant, makes_converted, makes_with, makes_added, makes_scaled, makes_or_zero, makes_digit}
use Rattle.dh_rows.proofs.PutSpread.{FitsWidth, makes_divided}

-- Plain operations.

pub moved_plain : (os : List Operation) (width factor offset index : ℕ) → GrowsPlain os (moved os width factor offset index).operations
moved_plain os width factor offset index =
    let c = converted os offset width in
    let d = converted c.operations index width in
    let s = scaled d.operations c.value factor in
    plain_on os c.operations _ (plain_pushed os _ refl)
    (plain_on c.operations d.operations _ (plain_pushed c.operations _ refl)
    (plain_on d.operations s.operations _ (below_behind d.operations c.value factor (bits_in factor) None) (added_behind s.operations s.sum d.value)))

pub zero_plain : (os : List Operation) (width : ℕ) (value : Option ℕ) → GrowsPlain os (or_zero os width value).operations
zero_plain os width None = plain_pushed os _ refl
zero_plain os width (Some value) = plain_self os

pub dealt_plain : (os : List Operation) (width copies : ℕ) (part : Dim) (copy index : ℕ) → GrowsPlain os (dealt os width copies part copy index).operations
dealt_plain os width copies part copy index =
    let c = converted os copy width in
    let d = converted c.operations index width in
    let q = divided d.operations width d.value part true in
    let r = digit_added q.operations q.quotient copies (Some c.value) in
    let n = digit_added r.operations r.sum part.banks q.remainder in
    plain_on os c.operations _ (plain_pushed os _ refl)
    (plain_on c.operations d.operations _ (plain_pushed c.operations _ refl)
    (plain_on d.operations q.operations _ (divided_behind d.operations width d.value part true)
    (plain_on q.operations r.operations _ (digit_put_behind q.operations q.quotient copies (Some c.value))
    (plain_on r.operations n.operations _ (digit_put_behind r.operations r.sum part.banks q.remainder)
    (plain_on n.operations (or_zero n.operations width n.sum).operations _ (zero_plain n.operations width n.sum) (plain_pushed (or_zero n.operations width n.sum).operations _ refl))))))

pub centred_plain : (os : List Operation) (width value bound : ℕ) → GrowsPlain os (centred os width value bound).operations
centred_plain os width value bound =
    let c = converted os value width in
    plain_on os c.operations _ (plain_pushed os _ refl) (with_behind c.operations op.Add c.value width bound refl)

centred_span_plain : (os : List Operation) (width value bound : ℕ) → GrowsPlain os (centred_span os width value bound).operations
centred_span_plain os width value bound = of (nat_le (2 ^ (width - 1)) bound)
  where
    of : (t : Bool) → GrowsPlain os (if t then no_span os else span_centred width bound (centred os width value bound)).operations
    of true = plain_self os
    of false = centred_plain os width value bound

pub spanned_plain : (os : List Operation) (k : Kind) (value bound : ℕ) → GrowsPlain os (spanned os k value bound).operations
spanned_plain os kind.Bool value bound = plain_self os
spanned_plain os (kind.Unsigned width) value bound = plain_self os
spanned_plain os (kind.Signed width) value bound = centred_span_plain os width value bound

-- Values.

-- operations that make what tells of an offset
pub record MakesSpan (x : Readings) (clock : ℕ) (os : List Operation) (m : Spanned) : Type 0 where
  pub adds : AddsOperations x clock os m.operations
  pub span : SpanStands x clock m.operations m.span

half_below : (w bound : ℕ) → nat_le (2 ^ (w - 1)) bound ≡ false → bound < 2 ^ w
half_below w bound e =
    let more : 2 ^ (w - 1) ≤ 2 ^ w = pow_mono (omega arith) in
    let l = below (2 ^ (w - 1)) bound e in
    omega (arith, more, l)
  where
    below : (m n : ℕ) → nat_le m n ≡ false → n < m
    below m n e = grind (arith, nat_tests)

module _ (x : Readings) (clock width : ℕ) (sized : IsWidth width) where
  abbrev own : Kind
  own = kind.Unsigned width

  input_on : (a b : List Operation) → AddsOperations x clock a b → (v : ℕ) → IsInput x clock a v → IsInput x clock b v
  input_on a b g v h y = earlier_later x clock (length a) (length b) v (grown_length a b g.grows) (h (obeys_before x a b g.grows y))

  makes_moved_sum : (os : List Operation) → x.first ≤ length os → (index : ℕ) (s : Summed) → MakesAny x clock os s own → IsReadingValue x clock os own index → Makes x clock os (moved_sum index s) own
  makes_moved_sum os begun index s h i =
      let a = makes_added x clock width sized s.operations (begun_on x clock os s.operations h.adds begun) s.sum index h.sum (kept x clock os s.operations own index h.adds i) in
      record { adds = adds_on x clock os s.operations _ h.adds a.adds; value = a.value }

  pub makes_moved : (os : List Operation) → x.first ≤ length os → (factor offset index : ℕ) → IsInput x clock os offset → IsInput x clock os index
      → Makes x clock os (moved os width factor offset index) own
  makes_moved os begun factor offset index e i =
      let c = converted os offset width in
      let one = makes_converted x clock os begun offset width sized e in
      let at_c = begun_on x clock os c.operations one.adds begun in
      let d = converted c.operations index width in
      let two = makes_converted x clock c.operations at_c index width sized (input_on os c.operations one.adds index i) in
      let at_d = begun_on x clock c.operations d.operations two.adds at_c in
      let s = makes_scaled x clock width sized d.operations at_d c.value factor (kept x clock c.operations d.operations own c.value two.adds one.value) in
      let m = makes_moved_sum d.operations at_d d.value (scaled d.operations c.value factor) s two.value in
      record { adds = adds_on x clock os c.operations _ one.adds (adds_on x clock c.operations d.operations _ two.adds m.adds); value = m.value }

  pub makes_dealt : (os : List Operation) → x.first ≤ length os → (copies : ℕ) (part : Dim) (copy index : ℕ) → FitsWidth width part → IsInput x clock os copy → IsInput x clock os index
      → Makes x clock os (dealt os width copies part copy index) own
  makes_dealt os begun copies part copy index fits g i =
      let c = converted os copy width in
      let one = makes_converted x clock os begun copy width sized g in
      let at_c = begun_on x clock os c.operations one.adds begun in
      let d = converted c.operations index width in
      let two = makes_converted x clock c.operations at_c index width sized (input_on os c.operations one.adds index i) in
      let at_d = begun_on x clock c.operations d.operations two.adds at_c in
      let q = divided d.operations width d.value part true in
      let three = makes_divided x clock width sized d.operations at_d d.value part true fits two.value in
      let at_q = begun_on x clock d.operations q.operations three.adds at_d in
      let copy_at_d = kept x clock c.operations d.operations own c.value two.adds one.value in
      let copy_at_q = kept x clock d.operations q.operations own c.value three.adds copy_at_d in
      let r = digit_added q.operations q.quotient copies (Some c.value) in
      let four = makes_digit x clock width sized q.operations at_q q.quotient copies (Some c.value) three.quotient copy_at_q in
      let at_r = begun_on x clock q.operations r.operations four.adds at_q in
      let n = digit_added r.operations r.sum part.banks q.remainder in
      let five = makes_digit x clock width sized r.operations at_r r.sum part.banks q.remainder four.sum (kept_maybe x clock q.operations r.operations own q.remainder four.adds three.remainder) in
      let at_n = begun_on x clock r.operations n.operations five.adds at_r in
      let z = or_zero n.operations width n.sum in
      let six = makes_or_zero x clock width sized n.operations at_n n.sum five.sum in
      let at_z = begun_on x clock n.operations z.operations six.adds at_n in
      let seven = makes_converted x clock z.operations at_z z.value width sized (λ y. (six.value y).earlier) in
      record {
        adds = adds_on x clock os c.operations _ one.adds (adds_on x clock c.operations d.operations _ two.adds (adds_on x clock d.operations q.operations _ three.adds
            (adds_on x clock q.operations r.operations _ four.adds (adds_on x clock r.operations n.operations _ five.adds (adds_on x clock n.operations z.operations _ six.adds seven.adds)))));
        value = seven.value;
      }

  pub makes_centred : (os : List Operation) → x.first ≤ length os → (value bound : ℕ) → bound < 2 ^ width → IsInput x clock os value → Makes x clock os (centred os width value bound) own
  makes_centred os begun value bound fits g =
      let c = converted os value width in
      let one = makes_converted x clock os begun value width sized g in
      let at_c = begun_on x clock os c.operations one.adds begun in
      made_on x clock os c (centred os width value bound) own own one
      (makes_with x clock c.operations at_c op.Add c.value (constant_made c.operations width bound) own own own refl refl refl one.value (makes_constant x clock c.operations at_c width bound sized fits))

module _ (x : Readings) (clock : ℕ) where
  pub makes_spanned : (k : Kind) (os : List Operation) → x.first ≤ length os → (value bound : ℕ) → IsInteger k → IsReadingValue x clock os k value → MakesSpan x clock os (spanned os k value bound)
  makes_spanned kind.Bool os begun value bound sized g = elim sized [ ]
  makes_spanned (kind.Unsigned w) os begun value bound sized g = record { adds = adds_self x clock os; span = (sized, g) }
  makes_spanned (kind.Signed w) os begun value bound sized g = of (nat_le (2 ^ (w - 1)) bound) refl
    where
      of : (t : Bool) → nat_le (2 ^ (w - 1)) bound ≡ t → MakesSpan x clock os (if t then no_span os else span_centred w bound (centred os w value bound))
      of true e = record { adds = adds_self x clock os; span = tt }
      of false e = let m = makes_centred x clock w sized os begun value bound (half_below w bound e) (λ y. (g y).earlier) in record { adds = m.adds; span = (sized, m.value) }
