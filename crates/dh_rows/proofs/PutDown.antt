-- All that is put down is plain operations without guards, of values that are there at the clock of those that they
-- are made of and of kinds that suit; and each value that is given is of the unsigned kind of one width. Function by
-- function, each from those that it calls.
use Rattle.std.proofs.Common.{◌≡◌, ℕ, zero, suc, ◌*◌, ◌/◌, ◌%◌, ◌^◌, ◌<◌, ◌≤◌, ◌==◌, Bool, true, false, List, Some, None, refl, sym, ap, ◌∙◌, subst, arith, length}
use Rattle.std.specs.Prelude.{Option, if◌then◌else◌}
use Rattle.std.proofs.lemmas.Nat.{pow_pos}
use Rattle.dh_value.specs.declared.kinds.Kind.{Kind}
use Rattle.dh_value.specs.declared.kinds.Kind.TheVariants as kind
use Rattle.dh_value.specs.declared.operators.Op.{Op}
use Rattle.dh_value.specs.declared.operators.Op.TheVariants as op
use Rattle.dh_value.specs.Words.{IsWidth, with_bits}
use Rattle.dh_value.specs.Operations.{Suits, result_of}
use Rattle.dh_plan.specs.declared.operations.Operation.{Operation}
use Rattle.dh_plan.specs.declared.operations.OperationForm.TheVariants.{Constant, Compute, Convert, Select}
use Rattle.dh_rows.specs.Readings.{Readings, Obeys, IsEarlierValue, AddsOperations, IsReadingValue, IsValueOrNone, is_cheap}
use Rattle.dh_rows.specs.MadeOperations.{Made, Summed, Taken, Divided, made, summed, sum_of, constant_made, computed, converted, selected, computed_with, bits_in, value_shifted, value_added, added_with, bit_scaled, scaled_below, scaled, value_doubled, constant_taken, taken_last, taken_bit, taken_rest, taken_less, taken_held, taken_below, quotient_and, divided_long, low_made, divided_by_power, or_zero, times, digit_behind, digit_added}
use Rattle.dh_rows.proofs.Growing.{grown_length, value_later, maybe_later, adds_self, adds_on, pushed_adds, pushed_value}

-- operations that make a value of a kind
pub record Makes (x : Readings) (clock : ℕ) (os : List Operation) (m : Made) (k : Kind) : Type 0 where
  pub adds : AddsOperations x clock os m.operations
  pub value : IsReadingValue x clock m.operations k m.value

-- or none
pub record MakesAny (x : Readings) (clock : ℕ) (os : List Operation) (m : Summed) (k : Kind) : Type 0 where
  pub adds : AddsOperations x clock os m.operations
  pub sum : IsValueOrNone x clock m.operations k m.sum

pub record MakesTaken (x : Readings) (clock : ℕ) (os : List Operation) (m : Taken) (k : Kind) : Type 0 where
  pub adds : AddsOperations x clock os m.operations
  pub quotient : IsValueOrNone x clock m.operations k m.quotient
  pub rest : IsReadingValue x clock m.operations k m.rest

pub record MakesDivided (x : Readings) (clock : ℕ) (os : List Operation) (m : Divided) (k : Kind) : Type 0 where
  pub adds : AddsOperations x clock os m.operations
  pub quotient : IsValueOrNone x clock m.operations k m.quotient
  pub remainder : IsValueOrNone x clock m.operations k m.remainder

module _ (x : Readings) (clock : ℕ) where
  pub begun_on : (a b : List Operation) → AddsOperations x clock a b → x.first ≤ length a → x.first ≤ length b
  begun_on a b g l = let m = grown_length a b g.grows in omega (arith, l, m)

  pub kept : (a b : List Operation) (k : Kind) (v : ℕ) → AddsOperations x clock a b → IsReadingValue x clock a k v → IsReadingValue x clock b k v
  kept a b k v g h = value_later x clock a b k v g.grows h

  pub kept_maybe : (a b : List Operation) (k : Kind) (v : Option ℕ) → AddsOperations x clock a b → IsValueOrNone x clock a k v → IsValueOrNone x clock b k v
  kept_maybe a b k v g h = maybe_later x clock a b k v g.grows h

  -- a value that is there
  pub none_made : (os : List Operation) (k : Kind) (v : ℕ) → IsReadingValue x clock os k v → Makes x clock os (made os v) k
  none_made os k v h = record { adds = adds_self x clock os; value = h }

  pub made_on : (a : List Operation) (m n : Made) (j k : Kind) → Makes x clock a m j → Makes x clock m.operations n k → Makes x clock a n k
  made_on a m n j k g h = record { adds = adds_on x clock a m.operations n.operations g.adds h.adds; value = h.value }

  pub any_of : (os : List Operation) (m : Made) (k : Kind) → Makes x clock os m k → MakesAny x clock os (sum_of m) k
  any_of os m k h = record { adds = h.adds; sum = h.value }

  pub none_any : (os : List Operation) (k : Kind) (v : Option ℕ) → IsValueOrNone x clock os k v → MakesAny x clock os (summed os v) k
  none_any os k v h = record { adds = adds_self x clock os; sum = h }

  -- Single operations.
  module _ (os : List Operation) (begun : x.first ≤ length os) where
    pub makes_constant : (width number : ℕ) → IsWidth width → number < 2 ^ width → Makes x clock os (constant_made os width number) (kind.Unsigned width)
    makes_constant width number sized fits = record {
      adds = pushed_adds x clock os (Constant (with_bits (kind.Unsigned width) number)) refl begun (λ h. tt) (λ h. record { sized = sized; fits = fits });
      value = pushed_value x clock os (Constant (with_bits (kind.Unsigned width) number)) refl begun (λ h. tt) (λ h. record { sized = sized; fits = fits }) (kind.Unsigned width) (λ h. refl);
    }

    pub makes_computed : (o : Op) (left right : ℕ) (j l k : Kind) → is_cheap o ≡ true → Suits o j l → result_of o j ≡ k → IsReadingValue x clock os j left → IsReadingValue x clock os l right
        → Makes x clock os (computed os o left right) k
    makes_computed o left right j l k cheap suits gives g h = record {
      adds = pushed_adds x clock os (Compute o left right) cheap begun takes fits;
      value = pushed_value x clock os (Compute o left right) cheap begun takes fits k (λ y. ap (λ i. result_of o i) (g y).kind_is ∙ gives);
    }
      where
        takes : Obeys x os → IsEarlierValue x clock (length os) left × (IsEarlierValue x clock (length os) right × Unit {0})
        takes y = ((g y).earlier, ((h y).earlier, tt))

        fits : Obeys x os → Suits o (x.kind left) (x.kind right)
        fits y = subst (λ i. Suits o i (x.kind right)) (sym (g y).kind_is) (subst (λ i. Suits o j i) (sym (h y).kind_is) suits)

    pub makes_converted : (inner width : ℕ) → IsWidth width → (Obeys x os → IsEarlierValue x clock (length os) inner) → Makes x clock os (converted os inner width) (kind.Unsigned width)
    makes_converted inner width sized g = record {
      adds = pushed_adds x clock os (Convert inner (kind.Unsigned width)) refl begun (λ y. (g y, tt)) (λ y. sized);
      value = pushed_value x clock os (Convert inner (kind.Unsigned width)) refl begun (λ y. (g y, tt)) (λ y. sized) (kind.Unsigned width) (λ y. refl);
    }

    pub makes_selected : (test a b : ℕ) (k : Kind) → IsReadingValue x clock os kind.Bool test → IsReadingValue x clock os k a → IsReadingValue x clock os k b → Makes x clock os (selected os test a b) k
    makes_selected test a b k t g h = record {
      adds = pushed_adds x clock os (Select test a b) refl begun takes fits;
      value = pushed_value x clock os (Select test a b) refl begun takes fits k (λ y. (g y).kind_is);
    }
      where
        takes : Obeys x os → IsEarlierValue x clock (length os) test × (IsEarlierValue x clock (length os) a × (IsEarlierValue x clock (length os) b × Unit {0}))
        takes y = ((t y).earlier, ((g y).earlier, ((h y).earlier, tt)))

        fits : Obeys x os → (x.kind test ≡ kind.Bool) × (x.kind a ≡ x.kind b)
        fits y = ((t y).kind_is, (g y).kind_is ∙ sym (h y).kind_is)

  -- an operator whose right operand was made just before
  pub makes_with : (os : List Operation) → x.first ≤ length os → (o : Op) (left : ℕ) (m : Made) (j l k : Kind) → is_cheap o ≡ true → Suits o j l → result_of o j ≡ k → IsReadingValue x clock os j left
      → Makes x clock os m l → Makes x clock os (computed_with o left m) k
  makes_with os begun o left m j l k cheap suits gives g h =
      made_on os m (computed_with o left m) l k h
      (makes_computed m.operations (begun_on os m.operations h.adds begun) o left m.value j l k cheap suits gives (kept os m.operations j left h.adds g) h.value)

six_bits : IsWidth 6
six_bits = (omega arith, omega arith)

-- Of the unsigned kind of one width.
module _ (x : Readings) (clock width : ℕ) (sized : IsWidth width) where
  abbrev own : Kind
  own = kind.Unsigned width

  pub makes_shifted : (os : List Operation) → x.first ≤ length os → (value by : ℕ) → by < 64 → IsReadingValue x clock os own value → Makes x clock os (value_shifted os value by) own
  makes_shifted os begun value by few g = of (by == 0)
    where
      of : (t : Bool) → Makes x clock os (if t then made os value else computed_with op.Shl value (constant_made os 6 by)) own
      of true = none_made x clock os own value g
      of false = makes_with x clock os begun op.Shl value (constant_made os 6 by) own (kind.Unsigned 6) own refl tt refl g (makes_constant x clock os begun 6 by six_bits few)

  pub makes_added : (os : List Operation) → x.first ≤ length os → (sum : Option ℕ) (value : ℕ) → IsValueOrNone x clock os own sum → IsReadingValue x clock os own value → Makes x clock os (value_added os sum value) own
  makes_added os begun None value s g = none_made x clock os own value g
  makes_added os begun (Some first) value s g = makes_computed x clock os begun op.Add first value own own own refl refl refl s g

  pub makes_added_with : (os : List Operation) → x.first ≤ length os → (sum : Option ℕ) (m : Made) → IsValueOrNone x clock os own sum → Makes x clock os m own → Makes x clock os (added_with sum m) own
  makes_added_with os begun sum m s h =
      made_on x clock os m (added_with sum m) own own h
      (makes_added m.operations (begun_on x clock os m.operations h.adds begun) sum m.value (kept_maybe x clock os m.operations own sum h.adds s) h.value)

  makes_bit : (os : List Operation) → x.first ≤ length os → (value factor by : ℕ) (sum : Option ℕ) → by < 64 → IsReadingValue x clock os own value → IsValueOrNone x clock os own sum
      → MakesAny x clock os (bit_scaled os value factor by sum) own
  makes_bit os begun value factor by sum few g s = of (factor / 2 ^ by % 2 == 1)
    where
      of : (t : Bool) → MakesAny x clock os (if t then sum_of (added_with sum (value_shifted os value by)) else summed os sum) own
      of true = any_of x clock os _ own (makes_added_with os begun sum (value_shifted os value by) s (makes_shifted os begun value by few g))
      of false = none_any x clock os own sum s

  below_turn : (os : List Operation) (value factor by : ℕ) (next : Summed) → MakesAny x clock os next own
      → MakesAny x clock next.operations (scaled_below next.operations value factor by next.sum) own → MakesAny x clock os (scaled_below next.operations value factor by next.sum) own
  below_turn os value factor by next bit rest = record { adds = adds_on x clock os next.operations _ bit.adds rest.adds; sum = rest.sum }

  makes_below : (os : List Operation) → x.first ≤ length os → (value factor bits : ℕ) (sum : Option ℕ) → bits ≤ 64 → IsReadingValue x clock os own value → IsValueOrNone x clock os own sum
      → MakesAny x clock os (scaled_below os value factor bits sum) own
  makes_below os begun value factor zero sum few g s = none_any x clock os own sum s
  makes_below os begun value factor (suc by) sum few g s =
      let bit = makes_bit os begun value factor by sum (omega (arith, few)) g s in
      below_turn os value factor by (bit_scaled os value factor by sum) bit
      (makes_below (bit_scaled os value factor by sum).operations (begun_on x clock os _ bit.adds begun) value factor by (bit_scaled os value factor by sum).sum (omega (arith, few)) (kept x clock os _ own value bit.adds g) bit.sum)

  pub makes_scaled : (os : List Operation) → x.first ≤ length os → (value factor : ℕ) → IsReadingValue x clock os own value → MakesAny x clock os (scaled os value factor) own
  makes_scaled os begun value factor g = makes_below os begun value factor (bits_in factor) None (omega arith) g tt

  -- Quotients.

  makes_twice : (os : List Operation) → x.first ≤ length os → (value : Option ℕ) → IsValueOrNone x clock os own value → MakesAny x clock os (value_doubled os value) own
  makes_twice os begun None g = none_any x clock os own None tt
  makes_twice os begun (Some value) g = any_of x clock os _ own (makes_shifted os begun value 1 (omega arith) g)

  -- one bit of a quotient: five operations and a sum
  taken_end : (os : List Operation) → x.first ≤ length os → (rest bit : ℕ) (t : Summed) → MakesAny x clock os t own → IsReadingValue x clock os own rest → IsReadingValue x clock os own bit
      → MakesTaken x clock os (taken_last rest bit t) own
  taken_end os begun rest bit t h r b = record { adds = adds_on x clock os t.operations _ h.adds a.adds; quotient = a.value; rest = kept x clock t.operations _ own rest a.adds (kept x clock os t.operations own rest h.adds r) }
    where
      a : Makes x clock t.operations (value_added t.operations t.sum bit) own
      a = makes_added t.operations (begun_on x clock os t.operations h.adds begun) t.sum bit h.sum (kept x clock os t.operations own bit h.adds b)

  taken_over : (os : List Operation) (m : List Operation) (t : Taken) → AddsOperations x clock os m → MakesTaken x clock m t own → MakesTaken x clock os t own
  taken_over os m t g h = record { adds = adds_on x clock os m t.operations g h.adds; quotient = h.quotient; rest = h.rest }

  makes_taken_bit : (os : List Operation) → x.first ≤ length os → (quotient : Option ℕ) (rest : ℕ) (bit : Made) → Makes x clock os bit own → IsValueOrNone x clock os own quotient → IsReadingValue x clock os own rest
      → MakesTaken x clock os (taken_bit quotient rest bit) own
  makes_taken_bit os begun quotient rest bit h q r =
      let later = begun_on x clock os bit.operations h.adds begun in
      taken_over os bit.operations _ h.adds
      (taken_end bit.operations later rest bit.value (value_doubled bit.operations quotient) (makes_twice bit.operations later quotient (kept_maybe x clock os bit.operations own quotient h.adds q))
      (kept x clock os bit.operations own rest h.adds r) h.value)

  makes_taken_rest : (os : List Operation) → x.first ≤ length os → (quotient : Option ℕ) (holds : ℕ) (rest : Made) → Makes x clock os rest own → IsValueOrNone x clock os own quotient → IsReadingValue x clock os kind.Bool holds
      → MakesTaken x clock os (taken_rest width quotient holds rest) own
  makes_taken_rest os begun quotient holds rest h q t =
      let later = begun_on x clock os rest.operations h.adds begun in
      taken_over os rest.operations _ h.adds
      (makes_taken_bit rest.operations later quotient rest.value (converted rest.operations holds width)
      (makes_converted x clock rest.operations later holds width sized (λ y. (kept x clock os rest.operations kind.Bool holds h.adds t y).earlier))
      (kept_maybe x clock os rest.operations own quotient h.adds q) h.value)

  makes_taken_less : (os : List Operation) → x.first ≤ length os → (quotient : Option ℕ) (rest holds : ℕ) (less : Made) → Makes x clock os less own → IsValueOrNone x clock os own quotient → IsReadingValue x clock os own rest
      → IsReadingValue x clock os kind.Bool holds → MakesTaken x clock os (taken_less width quotient rest holds less) own
  makes_taken_less os begun quotient rest holds less h q r t =
      let later = begun_on x clock os less.operations h.adds begun in
      let held = kept x clock os less.operations kind.Bool holds h.adds t in
      taken_over os less.operations _ h.adds
      (makes_taken_rest less.operations later quotient holds (selected less.operations holds less.value rest)
      (makes_selected x clock less.operations later holds less.value rest own held h.value (kept x clock os less.operations own rest h.adds r))
      (kept_maybe x clock os less.operations own quotient h.adds q) held)

  makes_taken_held : (os : List Operation) → x.first ≤ length os → (quotient : Option ℕ) (rest part : ℕ) (holds : Made) → Makes x clock os holds kind.Bool → IsValueOrNone x clock os own quotient → IsReadingValue x clock os own rest
      → IsReadingValue x clock os own part → MakesTaken x clock os (taken_held width quotient rest part holds) own
  makes_taken_held os begun quotient rest part holds h q r p =
      let later = begun_on x clock os holds.operations h.adds begun in
      let rest_later = kept x clock os holds.operations own rest h.adds r in
      taken_over os holds.operations _ h.adds
      (makes_taken_less holds.operations later quotient rest holds.value (computed holds.operations op.Sub rest part)
      (makes_computed x clock holds.operations later op.Sub rest part own own own refl refl refl rest_later (kept x clock os holds.operations own part h.adds p))
      (kept_maybe x clock os holds.operations own quotient h.adds q) rest_later h.value)

  makes_taken : (os : List Operation) → x.first ≤ length os → (quotient : Option ℕ) (rest part : ℕ) → part < 2 ^ width → IsValueOrNone x clock os own quotient → IsReadingValue x clock os own rest
      → MakesTaken x clock os (constant_taken os width quotient rest part) own
  makes_taken os begun quotient rest part fits q r =
      let c = makes_constant x clock os begun width part sized fits in
      let later = begun_on x clock os _ c.adds begun in
      let rest_later = kept x clock os _ own rest c.adds r in
      taken_over os _ _ c.adds
      (makes_taken_held (constant_made os width part).operations later quotient rest (constant_made os width part).value _
      (makes_computed x clock _ later op.Ge rest (constant_made os width part).value own own kind.Bool refl refl refl rest_later c.value)
      (kept_maybe x clock os _ own quotient c.adds q) rest_later c.value)

  taken_turned : (os : List Operation) (banks by : ℕ) (next : Taken) → MakesTaken x clock os next own → MakesTaken x clock next.operations (taken_below next.operations width banks by next.quotient next.rest) own
      → MakesTaken x clock os (taken_below next.operations width banks by next.quotient next.rest) own
  taken_turned os banks by next h rest = taken_over os next.operations _ h.adds rest

  makes_taken_below : (os : List Operation) → x.first ≤ length os → (banks bits : ℕ) (quotient : Option ℕ) (rest : ℕ) → ((by : ℕ) → by < bits → banks * 2 ^ by % 2 ^ 64 < 2 ^ width)
      → IsValueOrNone x clock os own quotient → IsReadingValue x clock os own rest → MakesTaken x clock os (taken_below os width banks bits quotient rest) own
  makes_taken_below os begun banks zero quotient rest fits q r = record { adds = adds_self x clock os; quotient = q; rest = r }
  makes_taken_below os begun banks (suc by) quotient rest fits q r =
      let t = makes_taken os begun quotient rest (banks * 2 ^ by % 2 ^ 64) (fits by (omega arith)) q r in
      taken_turned os banks by (constant_taken os width quotient rest (banks * 2 ^ by % 2 ^ 64)) t
      (makes_taken_below (constant_taken os width quotient rest (banks * 2 ^ by % 2 ^ 64)).operations (begun_on x clock os _ t.adds begun) banks by (constant_taken os width quotient rest (banks * 2 ^ by % 2 ^ 64)).quotient
      (constant_taken os width quotient rest (banks * 2 ^ by % 2 ^ 64)).rest (λ i l. fits i (omega (arith, l))) t.quotient t.rest)

  pub makes_divided_long : (os : List Operation) → x.first ≤ length os → (value banks bits : ℕ) → ((by : ℕ) → by < bits → banks * 2 ^ by % 2 ^ 64 < 2 ^ width) → IsReadingValue x clock os own value
      → MakesDivided x clock os (divided_long os width value banks bits) own
  makes_divided_long os begun value banks bits fits g = let t = makes_taken_below os begun banks bits None value fits tt g in record { adds = t.adds; quotient = t.quotient; remainder = t.rest }

  makes_low : (os : List Operation) → x.first ≤ length os → (value bits : ℕ) (banked : Bool) → IsWidth bits → IsReadingValue x clock os own value → MakesAny x clock os (low_made os width value bits banked) own
  makes_low os begun value bits false few g = none_any x clock os own None tt
  makes_low os begun value bits true few g =
      let low = makes_converted x clock os begun value bits few (λ y. (g y).earlier) in
      any_of x clock os _ own
      (made_on x clock os (converted os value bits) _ (kind.Unsigned bits) own low (makes_converted x clock _ (begun_on x clock os _ low.adds begun) _ width sized (λ y. (low.value y).earlier)))

  quotient_on : (os : List Operation) (q : Made) (low : Summed) → Makes x clock os q own → MakesAny x clock q.operations low own → MakesDivided x clock os (quotient_and q.value low) own
  quotient_on os q low h l = record { adds = adds_on x clock os q.operations low.operations h.adds l.adds; quotient = kept x clock q.operations low.operations own q.value l.adds h.value; remainder = l.sum }

  pub makes_divided_by_power : (os : List Operation) → x.first ≤ length os → (value bits : ℕ) (banked : Bool) → 1 ≤ bits → bits < 64 → IsReadingValue x clock os own value
      → MakesDivided x clock os (divided_by_power os width value bits banked) own
  makes_divided_by_power os begun value bits banked some few g =
      let q = makes_with x clock os begun op.Shr value (constant_made os 6 bits) own (kind.Unsigned 6) own refl tt refl g (makes_constant x clock os begun 6 bits six_bits few) in
      quotient_on os (computed_with op.Shr value (constant_made os 6 bits)) _ q
      (makes_low _ (begun_on x clock os _ q.adds begun) value bits banked (some, omega (arith, few)) (kept x clock os _ own value q.adds g))

  -- Digits.

  pub makes_or_zero : (os : List Operation) → x.first ≤ length os → (value : Option ℕ) → IsValueOrNone x clock os own value → Makes x clock os (or_zero os width value) own
  makes_or_zero os begun None g = makes_constant x clock os begun width 0 sized (pow_pos width)
  makes_or_zero os begun (Some value) g = none_made x clock os own value g

  makes_times : (os : List Operation) → x.first ≤ length os → (sum : Option ℕ) (factor : ℕ) → IsValueOrNone x clock os own sum → MakesAny x clock os (times os sum factor) own
  makes_times os begun None factor s = none_any x clock os own None tt
  makes_times os begun (Some sum) factor s = makes_scaled os begun sum factor s

  makes_behind : (os : List Operation) → x.first ≤ length os → (m : Summed) (digit : Option ℕ) → MakesAny x clock os m own → IsValueOrNone x clock os own digit → MakesAny x clock os (digit_behind m digit) own
  makes_behind os begun m None h d = h
  makes_behind os begun m (Some digit) h d =
      let a = makes_added m.operations (begun_on x clock os m.operations h.adds begun) m.sum digit h.sum (kept x clock os m.operations own digit h.adds d) in
      record { adds = adds_on x clock os m.operations _ h.adds a.adds; sum = a.value }

  pub makes_digit : (os : List Operation) → x.first ≤ length os → (sum : Option ℕ) (factor : ℕ) (digit : Option ℕ) → IsValueOrNone x clock os own sum → IsValueOrNone x clock os own digit
      → MakesAny x clock os (digit_added os sum factor digit) own
  makes_digit os begun sum factor digit s d = makes_behind os begun (times os sum factor) digit (makes_times os begun sum factor s) d
