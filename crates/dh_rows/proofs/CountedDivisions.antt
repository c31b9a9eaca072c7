-- The numbers that divisions show: of an index below the size of its dimension, quotient and remainder by its banks.
use Rattle.std.proofs.Common.{◌≡◌, ℕ, zero, suc, ◌+◌, ◌-◌, ◌*◌, ◌/◌, ◌%◌, ◌^◌, ◌<◌, ◌≤◌, ◌==◌, nat_le, Bool, true, false, List, Some, None, refl, sym, ap, ◌∙◌, subst, arith, length, pos, pow_mono}
use Rattle.std.specs.Prelude.{Option, if◌then◌else◌}
use Rattle.std.proofs.lemmas.Bool.Decides.{nat_tests}
use Rattle.std.proofs.lemmas.Nat.{pow_pos, div-add-mod'}
use Rattle.std.proofs.Math.Nat.{div-eq_of_lt, mod-eq_of_lt, mul_comm, one-le-mul, le-mul_of_pos_right, mul-le-mul_right}
use Rattle.dh_value.specs.declared.kinds.Kind.TheVariants as kind
use Rattle.dh_value.specs.declared.operators.Op.TheVariants as op
use Rattle.dh_value.specs.Words.{with_bits, word_of, value_of}
use Rattle.dh_value.specs.Operations.{binary_of, is_true, truth}
use Rattle.dh_tree.specs.declared.tables.Dim.{Dim}
use Rattle.dh_tree.specs.Shapes.{IsDim}
use Rattle.dh_tree.proofs.BankElements.{whole}
use Rattle.dh_plan.specs.declared.operations.Operation.{Operation}
use Rattle.dh_plan.specs.declared.operations.OperationForm.TheVariants.{Select}
use Rattle.dh_rows.specs.Readings.{Readings, Obeys}
use Rattle.dh_rows.specs.MadeOperations.{Made, Summed, Taken, Divided, constant_made, computed, converted, selected, computed_with, bits_in, power_in, value_doubled, constant_taken, taken_last, taken_bit, taken_rest, taken_less, taken_held, taken_part, taken_below, division, divided_long, low_made, divided_by_power, divided_some, divided}
use Rattle.dh_rows.proofs.Growing.{obeys_before, obeys_plain, plain_grows, pushed_word, pushed_grows}
use Rattle.dh_rows.proofs.PutBehind.{with_behind, twice_behind, last_behind, bit_taken_behind, rest_behind, less_behind, held_behind, part_behind, taken_behind, long_behind, low_behind}
use Rattle.dh_rows.proofs.PutSpread.{FitsWidth}
use Rattle.dh_rows.proofs.CountWords.{number_word, number_cut, less_count, cut_count}
use Rattle.dh_rows.proofs.DigitNumbers.{double, holds, fails, less_left, same_on, same_off, quotient_is, remainder_is}
use Rattle.dh_rows.proofs.BitsOfNumbers.{bits_above, part_small}
use Rattle.dh_rows.proofs.CountedSums.{Counts, CountsOr, begun_behind, constant_shows, computed_shows, converted_shows, with_shows, shifted_counts, added_counts}

-- what is shown of a bit taken, and of a division
pub record CountsTaken (x : Readings) (width : ℕ) (t : Taken) (quotient rest : ℕ) : Type 0 where
  pub quotient_is : CountsOr x width t.quotient quotient
  pub rest_is : Counts x width t.rest rest

pub record CountsDivided (x : Readings) (width : ℕ) (d : Divided) (banked : Bool) (quotient remainder : ℕ) : Type 0 where
  pub quotient_is : CountsOr x width d.quotient quotient
  pub remainder_is : banked ≡ true → CountsOr x width d.remainder remainder

-- the bit is 1 where the part is in the rest, and is then taken from it
abbrev pub bit_number : Bool → ℕ
bit_number true = 1
bit_number false = 0

abbrev pub left_number : Bool → (rest part : ℕ) → ℕ
left_number true rest part = rest - part
left_number false rest part = rest

module _ (x : Readings) (width : ℕ) where
  twice_counts : (os : List Operation) → x.first ≤ length os → (value : Option ℕ) (n : ℕ) → n * 2 < 2 ^ width → CountsOr x width value n → Obeys x (value_doubled os value).operations → CountsOr x width (value_doubled os value).sum (n * 2)
  twice_counts os begun None n fits is h = ap (λ m. m * 2) is
  twice_counts os begun (Some value) n fits is h = shifted_counts x width os begun value 1 n fits is h

  last_counts : (rest bit : ℕ) (t : Summed) → x.first ≤ length t.operations → (m b r : ℕ) → m + b < 2 ^ width → CountsOr x width t.sum m → Counts x width bit b → Counts x width rest r
      → Obeys x (taken_last rest bit t).operations → CountsTaken x width (taken_last rest bit t) (m + b) r
  last_counts rest bit t begun m b r fits s is r_is h = record { quotient_is = added_counts x width t.operations begun t.sum bit m b fits s is h; rest_is = r_is }

  bit_taken_counts : (quotient : Option ℕ) (rest : ℕ) (bit : Made) → x.first ≤ length bit.operations → (q b r : ℕ) → q * 2 + b < 2 ^ width → CountsOr x width quotient q → Counts x width bit.value b → Counts x width rest r
      → Obeys x (taken_bit quotient rest bit).operations → CountsTaken x width (taken_bit quotient rest bit) (q * 2 + b) r
  bit_taken_counts quotient rest bit begun q b r fits s is r_is h =
      last_counts rest bit.value (value_doubled bit.operations quotient) (begun_behind x bit.operations _ (plain_grows _ _ (twice_behind bit.operations quotient)) begun) (q * 2) b r fits
      (twice_counts bit.operations begun quotient q (omega (arith, fits)) s (obeys_plain x _ _ (last_behind rest bit.value (value_doubled bit.operations quotient)) h)) is r_is h

  bit_small : (t : Bool) → bit_number t ≤ 1
  bit_small true = omega arith
  bit_small false = omega arith

  truth_value : (t : Bool) → value_of (truth t) ≡ pos (bit_number t)
  truth_value true = refl
  truth_value false = refl

  rest_counts : (quotient : Option ℕ) (held : ℕ) (rest : Made) → x.first ≤ length rest.operations → (t : Bool) (q r : ℕ) → q * 2 + 1 < 2 ^ width → CountsOr x width quotient q → x.word held ≡ truth t
      → Counts x width rest.value r → Obeys x (taken_rest width quotient held rest).operations → CountsTaken x width (taken_rest width quotient held rest) (q * 2 + bit_number t) r
  rest_counts quotient held rest begun t q r fits s t_is r_is h =
      let few = bit_small t in
      bit_taken_counts quotient rest.value (converted rest.operations held width) (begun_behind x rest.operations _ (pushed_grows rest.operations None _) begun) q (bit_number t) r (omega (arith, few, fits)) s
      (converted_shows x rest.operations begun held width (obeys_plain x _ _ (bit_taken_behind quotient rest.value (converted rest.operations held width)) h)
      ∙ (ap (λ w. word_of (kind.Unsigned width) (value_of w)) t_is ∙ (ap (λ z. word_of (kind.Unsigned width) z) (truth_value t) ∙ number_word width (bit_number t) (omega (arith, few, fits)))))
      r_is h

  less_counts : (quotient : Option ℕ) (rest held : ℕ) (less : Made) → x.first ≤ length less.operations → (t : Bool) (q r p : ℕ) → q * 2 + 1 < 2 ^ width → CountsOr x width quotient q → x.word held ≡ truth t
      → Counts x width rest r → (t ≡ true → Counts x width less.value (r - p)) → Obeys x (taken_less width quotient rest held less).operations
      → CountsTaken x width (taken_less width quotient rest held less) (q * 2 + bit_number t) (left_number t r p)
  less_counts quotient rest held less begun t q r p fits s t_is r_is l_is h =
      rest_counts quotient held (selected less.operations held less.value rest) (begun_behind x less.operations _ (pushed_grows less.operations None _) begun) t q (left_number t r p) fits s t_is
      (pushed_word x less.operations (Select held less.value rest) refl begun (obeys_plain x _ _ (rest_behind width quotient held (selected less.operations held less.value rest)) h) ∙ chosen t t_is l_is) h
    where
      chosen : (t : Bool) → x.word held ≡ truth t → (t ≡ true → Counts x width less.value (r - p))
          → (if is_true (x.word held) then x.word less.value else x.word rest) ≡ with_bits (kind.Unsigned width) (left_number t r p)
      chosen true e l = ap (λ w. if is_true w then x.word less.value else x.word rest) e ∙ l refl
      chosen false e l = ap (λ w. if is_true w then x.word less.value else x.word rest) e ∙ r_is

  held_counts : (quotient : Option ℕ) (rest part : ℕ) (held : Made) → x.first ≤ length held.operations → (q r p : ℕ) → q * 2 + 1 < 2 ^ width → r < 2 ^ width → CountsOr x width quotient q
      → x.word held.value ≡ truth (nat_le p r) → Counts x width rest r → Counts x width part p → Obeys x (taken_held width quotient rest part held).operations
      → CountsTaken x width (taken_held width quotient rest part held) (q * 2 + bit_number (nat_le p r)) (left_number (nat_le p r) r p)
  held_counts quotient rest part held begun q r p fits small s t_is r_is p_is h =
      less_counts quotient rest held.value (computed held.operations op.Sub rest part) (begun_behind x held.operations _ (pushed_grows held.operations None _) begun) (nat_le p r) q r p fits s t_is r_is
      (λ e. computed_shows x held.operations begun op.Sub rest part refl (obeys_plain x _ _ (less_behind width quotient rest held.value (computed held.operations op.Sub rest part)) h)
      ∙ (ap (λ w. binary_of op.Sub w (x.word part)) r_is ∙ (ap (λ w. binary_of op.Sub (with_bits (kind.Unsigned width) r) w) p_is ∙ less_count width r p (holds p r e) small))) h

  part_counts : (quotient : Option ℕ) (rest : ℕ) (part : Made) → x.first ≤ length part.operations → (q r p : ℕ) → q * 2 + 1 < 2 ^ width → r < 2 ^ width → CountsOr x width quotient q → Counts x width rest r
      → Counts x width part.value p → Obeys x (taken_part width quotient rest part).operations
      → CountsTaken x width (taken_part width quotient rest part) (q * 2 + bit_number (nat_le p r)) (left_number (nat_le p r) r p)
  part_counts quotient rest part begun q r p fits small s r_is p_is h =
      held_counts quotient rest part.value (computed part.operations op.Ge rest part.value) (begun_behind x part.operations _ (pushed_grows part.operations None _) begun) q r p fits small s
      (computed_shows x part.operations begun op.Ge rest part.value refl (obeys_plain x _ _ (held_behind width quotient rest part.value (computed part.operations op.Ge rest part.value)) h)
      ∙ (ap (λ w. binary_of op.Ge w (x.word part.value)) r_is ∙ ap (λ w. binary_of op.Ge (with_bits (kind.Unsigned width) r) w) p_is)) r_is p_is h

  taken_counts : (os : List Operation) → x.first ≤ length os → (quotient : Option ℕ) (rest part q r : ℕ) → q * 2 + 1 < 2 ^ width → r < 2 ^ width → CountsOr x width quotient q → Counts x width rest r
      → Obeys x (constant_taken os width quotient rest part).operations
      → CountsTaken x width (constant_taken os width quotient rest part) (q * 2 + bit_number (nat_le part r)) (left_number (nat_le part r) r part)
  taken_counts os begun quotient rest part q r fits small s r_is h =
      part_counts quotient rest (constant_made os width part) (begun_behind x os _ (pushed_grows os None _) begun) q r part fits small s r_is
      (constant_shows x os begun width part (obeys_plain x _ _ (part_behind width quotient rest (constant_made os width part)) h)) h

  -- Bit by bit, of what is still to divide and the quotient so far.

  left_small : (t : Bool) (p r : ℕ) → nat_le p r ≡ t → r < p + p → left_number t r p < p
  left_small true p r e l = less_left p r l e
  left_small false p r e l = fails p r e

  left_same : (t : Bool) (q p r : ℕ) → nat_le p r ≡ t → (q * 2 + bit_number t) * p + left_number t r p ≡ q * (p + p) + r
  left_same true q p r e = same_on q p r e
  left_same false q p r e = same_off q p r

  twice_part : (banks by : ℕ) → banks * 2 ^ suc by ≡ banks * 2 ^ by + banks * 2 ^ by
  twice_part banks by = ap (λ m. banks * m) (double by) ∙ omega arith

  doubled : (q p r v : ℕ) → 1 ≤ p → v ≡ q * (p + p) + r → q * 2 ≤ v
  doubled q zero r v some e = absurd (omega (arith, some))
  doubled q (suc p) r v some e = let m : q * 2 ≤ q * (suc p + suc p) = omega arith in omega (arith, m, e)

  part_some : (banks by : ℕ) → 1 ≤ banks → 1 ≤ banks * 2 ^ by
  part_some banks by some = one-le-mul some (pow_pos by)

  module _ (banks : ℕ) (some : 1 ≤ banks) where
    long_end : (t : Taken) (q r v : ℕ) → r < banks → v ≡ q * banks + r → CountsTaken x width t q r → CountsTaken x width t (v / banks) (v % banks)
    long_end t q r v l e c =
        subst (λ n. CountsTaken x width t (n / banks) (n % banks)) (sym e)
        (subst (λ n. CountsTaken x width t n ((q * banks + r) % banks)) (sym (quotient_is q banks r l)) (subst (λ n. CountsTaken x width t q n) (sym (remainder_is q banks r l)) c))

    long_counts : (bits : ℕ) (os : List Operation) → x.first ≤ length os → (quotient : Option ℕ) (rest q r v : ℕ) → ((by : ℕ) → by < bits → banks * 2 ^ by % 2 ^ 64 ≡ banks * 2 ^ by)
        → v ≡ q * (banks * 2 ^ bits) + r → r < banks * 2 ^ bits → v + 1 < 2 ^ width → CountsOr x width quotient q → Counts x width rest r
        → Obeys x (taken_below os width banks bits quotient rest).operations → CountsTaken x width (taken_below os width banks bits quotient rest) (v / banks) (v % banks)
    long_counts zero os begun quotient rest q r v fits e l small s r_is h =
        long_end (record { operations = os; quotient = quotient; rest = rest }) q r v (omega (arith, l)) (e ∙ ap (λ n. q * n + r) (one banks)) (record { quotient_is = s; rest_is = r_is })
      where
        one : (b : ℕ) → b * 2 ^ 0 ≡ b
        one b = omega arith
    long_counts (suc by) os begun quotient rest q r v fits e l small s r_is h =
        long_counts by (constant_taken os width quotient rest part).operations (begun_behind x os _ (plain_grows _ _ (taken_behind os width quotient rest part)) begun) (constant_taken os width quotient rest part).quotient (constant_taken os width quotient rest part).rest
        (q * 2 + bit_number (nat_le p r)) (left_number (nat_le p r) r p) v (λ i m. fits i (omega (arith, m))) (e2 ∙ sym (left_same (nat_le p r) q p r refl)) (left_small (nat_le p r) p r refl l2) small told.quotient_is told.rest_is h
      where
        part : ℕ
        part = banks * 2 ^ by % 2 ^ 64

        p : ℕ
        p = banks * 2 ^ by

        e2 : v ≡ q * (banks * 2 ^ by + banks * 2 ^ by) + r
        e2 = e ∙ ap (λ n. q * n + r) (twice_part banks by)

        l2 : r < banks * 2 ^ by + banks * 2 ^ by
        l2 = subst (λ n. r < n) (twice_part banks by) l

        first : CountsTaken x width (constant_taken os width quotient rest (banks * 2 ^ by % 2 ^ 64)) (q * 2 + bit_number (nat_le (banks * 2 ^ by % 2 ^ 64) r)) (left_number (nat_le (banks * 2 ^ by % 2 ^ 64) r) r (banks * 2 ^ by % 2 ^ 64))
        first =
            let m = doubled q (banks * 2 ^ by) r v (part_some banks by some) e2 in
            let n : r ≤ v = omega (arith, e2) in
            taken_counts os begun quotient rest (banks * 2 ^ by % 2 ^ 64) q r (omega (arith, m, small)) (omega (arith, n, small)) s r_is
            (obeys_plain x _ _ (long_behind (constant_taken os width quotient rest (banks * 2 ^ by % 2 ^ 64)).operations width banks by (constant_taken os width quotient rest (banks * 2 ^ by % 2 ^ 64)).quotient (constant_taken os width quotient rest (banks * 2 ^ by % 2 ^ 64)).rest) h)

        told : CountsTaken x width (constant_taken os width quotient rest (banks * 2 ^ by % 2 ^ 64)) (q * 2 + bit_number (nat_le (banks * 2 ^ by) r)) (left_number (nat_le (banks * 2 ^ by) r) r (banks * 2 ^ by))
        told =
            subst (λ n. CountsTaken x width (constant_taken os width quotient rest (banks * 2 ^ by % 2 ^ 64)) (q * 2 + bit_number (nat_le n r)) (left_number (nat_le n r) r n)) (fits by (omega arith)) first

  -- The divisions of an index of a dimension.

  division_is : (t : Taken) (banked : Bool) (q r : ℕ) → CountsTaken x width t q r → CountsDivided x width (division t) banked q r
  division_is t banked q r c = record { quotient_is = c.quotient_is; remainder_is = λ e. c.rest_is }

  size_reached : (d : Dim) → IsDim d → d.size < 2 ^ 64 → d.size ≤ d.banks * 2 ^ bits_in (d.size / d.banks - 1)
  size_reached d h small =
      let all = whole d.size d.banks h.divides in
      let rows_less : d.size / d.banks ≤ d.size / d.banks * d.banks = le-mul_of_pos_right (d.size / d.banks) h.banks in
      let above = bits_above (d.size / d.banks - 1) (omega (arith, all, rows_less, small)) in
      let more : d.size / d.banks ≤ 2 ^ bits_in (d.size / d.banks - 1) = omega (arith, above) in
      let times : d.size / d.banks * d.banks ≤ 2 ^ bits_in (d.size / d.banks - 1) * d.banks = mul-le-mul_right d.banks more in
      let turn : 2 ^ bits_in (d.size / d.banks - 1) * d.banks ≡ d.banks * 2 ^ bits_in (d.size / d.banks - 1) = mul_comm _ _ in
      omega (arith, all, times, turn)

  module _ (few : width ≤ 64) (os : List Operation) (begun : x.first ≤ length os) (value : ℕ) (d : Dim) (banked : Bool) (fits : FitsWidth width d) (v : ℕ) (inside : v < d.size) (is : Counts x width value v) where
    most : 2 ^ width ≤ 2 ^ 64
    most = pow_mono few

    long_division : Obeys x (divided_long os width value d.banks (bits_in (d.size / d.banks - 1))).operations
        → CountsDivided x width (divided_long os width value d.banks (bits_in (d.size / d.banks - 1))) banked (v / d.banks) (v % d.banks)
    long_division h =
        let small = fits.small in
        let m = most in
        let reached = size_reached d fits.dim (omega (arith, small, m)) in
        division_is _ banked (v / d.banks) (v % d.banks)
        (long_counts d.banks fits.dim.banks (bits_in (d.size / d.banks - 1)) os begun None value 0 v v
        (λ by l. let part = part_small d width by fits.dim small few l in mod-eq_of_lt (omega (arith, part, small, m)))
        (omega arith) (omega (arith, inside, reached)) (omega (arith, inside, small)) refl is h)

    quotient_by : (bits : ℕ) → Obeys x (computed_with op.Shr value (constant_made os 6 bits)).operations → Counts x width (computed_with op.Shr value (constant_made os 6 bits)).value (v / 2 ^ bits)
    quotient_by bits h =
        let small = fits.small in
        with_shows x os begun op.Shr value 6 bits refl h ∙ (ap (λ w. binary_of op.Shr w (with_bits (kind.Unsigned 6) bits)) is ∙ cut_count width v bits (omega (arith, inside, small)))

    low_counts : (a : List Operation) → x.first ≤ length a → (bits : ℕ) → Obeys x (low_made a width value bits true).operations → CountsOr x width (low_made a width value bits true).sum (v % 2 ^ bits)
    low_counts a begun_a bits h =
        let small = fits.small in
        let less = mod_less v (2 ^ bits) in
        converted_shows x (converted a value bits).operations (begun_behind x a _ (pushed_grows a None _) begun_a) (converted a value bits).value width h
        ∙ (ap (λ w. word_of (kind.Unsigned width) (value_of w))
        (converted_shows x a begun_a value bits (obeys_before x _ _ (pushed_grows _ None _) h) ∙ (ap (λ w. word_of (kind.Unsigned bits) (value_of w)) is ∙ number_cut bits v (pow_pos bits)))
        ∙ number_word width (v % 2 ^ bits) (omega (arith, less, inside, small)))
      where
        mod_less : (v m : ℕ) → v % m ≤ v
        mod_less v m = let e = div-add-mod' v m in omega (arith, e)

    by_power : (bits : ℕ) → d.banks ≡ 2 ^ bits → (t : Bool) → Obeys x (divided_by_power os width value bits t).operations → CountsDivided x width (divided_by_power os width value bits t) t (v / d.banks) (v % d.banks)
    by_power bits e false h = record {
      quotient_is = quotient_by bits h ∙ ap (λ m. with_bits (kind.Unsigned width) (v / m)) (sym e);
      remainder_is = λ b. absurd (false_true b);
    }
      where
        false_true : ◌≡◌ {A = Bool} false true → ⊥
        false_true b = cc
    by_power bits e true h = record {
      quotient_is = quotient_by bits (obeys_plain x _ _ (low_behind _ width value bits true) h) ∙ ap (λ m. with_bits (kind.Unsigned width) (v / m)) (sym e);
      remainder_is = λ b. low_counts (computed_with op.Shr value (constant_made os 6 bits)).operations (begun_behind x os _ (plain_grows _ _ (with_behind os op.Shr value 6 bits refl)) begun) bits h ∙ ap (λ m. with_bits (kind.Unsigned width) (v % m)) (sym e);
    }

    equal : (a b : ℕ) → (a == b) ≡ true → a ≡ b
    equal a b e = grind (arith, nat_tests)

    some_division : Obeys x (divided_some os width value d banked).operations → CountsDivided x width (divided_some os width value d banked) banked (v / d.banks) (v % d.banks)
    some_division h = of (d.banks == 2 ^ power_in d.banks) refl h
      where
        of : (t : Bool) → (d.banks == 2 ^ power_in d.banks) ≡ t
            → Obeys x (if t then divided_by_power os width value (power_in d.banks) banked else divided_long os width value d.banks (bits_in (d.size / d.banks - 1))).operations
            → CountsDivided x width (if t then divided_by_power os width value (power_in d.banks) banked else divided_long os width value d.banks (bits_in (d.size / d.banks - 1))) banked (v / d.banks) (v % d.banks)
        of true e g = by_power (power_in d.banks) (equal d.banks (2 ^ power_in d.banks) e) banked g
        of false e g = long_division g

    one_bank : d.banks ≡ 1 → CountsDivided x width (record { operations = os; quotient = Some value; remainder = None }) banked (v / d.banks) (v % d.banks)
    one_bank e = record {
      quotient_is = is ∙ ap (λ n. with_bits (kind.Unsigned width) n) (sym (ap (λ m. v / m) e ∙ omega arith));
      remainder_is = λ b. ap (λ m. v % m) e ∙ omega arith;
    }

    one_row : nat_le (d.size / d.banks) 1 ≡ true → CountsDivided x width (record { operations = os; quotient = None; remainder = Some value }) banked (v / d.banks) (v % d.banks)
    one_row e = record {
      quotient_is = div-eq_of_lt below;
      remainder_is = λ b. is ∙ ap (λ n. with_bits (kind.Unsigned width) n) (sym (mod-eq_of_lt below));
    }
      where
        few_rows : (n : ℕ) → nat_le n 1 ≡ true → n ≤ 1
        few_rows n l = grind (arith, nat_tests)

        below : v < d.banks
        below =
            let all = whole d.size d.banks fits.dim.divides in
            let times : d.size / d.banks * d.banks ≤ 1 * d.banks = mul-le-mul_right d.banks (few_rows _ e) in
            omega (arith, all, times, inside)

    pub divided_counts : Obeys x (divided os width value d banked).operations → CountsDivided x width (divided os width value d banked) banked (v / d.banks) (v % d.banks)
    divided_counts h = of (d.banks == 1) (nat_le (d.size / d.banks) 1) refl refl h
      where
        of : (t s : Bool) → (d.banks == 1) ≡ t → nat_le (d.size / d.banks) 1 ≡ s
            → Obeys x (if t then record { operations = os; quotient = Some value; remainder = None }
            else (if s then record { operations = os; quotient = None; remainder = Some value } else divided_some os width value d banked)).operations
            → CountsDivided x width (if t then record { operations = os; quotient = Some value; remainder = None }
            else (if s then record { operations = os; quotient = None; remainder = Some value } else divided_some os width value d banked)) banked (v / d.banks) (v % d.banks)
        of true s e f g = one_bank (equal d.banks 1 e)
        of false true e f g = one_row f
        of false false e f g = some_division g
