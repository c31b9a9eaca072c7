-- What the index of an element of a copy in a split of a dimension shows, where copy and element are in range.
use Rattle.std.proofs.Common.{◌≡◌, ℕ, ℤ, ◌+◌, ◌*◌, ◌/◌, ◌%◌, ◌^◌, ◌<◌, ◌≤◌, true, List, Some, None, refl, ap, ◌∙◌, arith, length, pos, pow_mono}
use Rattle.std.proofs.Math.Nat.{mod-lt, le-mul_of_pos_right}
use Rattle.dh_value.specs.declared.kinds.Kind.TheVariants as kind
use Rattle.dh_value.specs.Words.{word_of, value_of}
use Rattle.dh_tree.specs.declared.tables.Dim.{Dim}
use Rattle.dh_tree.proofs.BankElements.{whole, quotient_below, place_below}
use Rattle.dh_plan.specs.declared.operations.Operation.{Operation}
use Rattle.dh_rows.specs.Readings.{Readings, Obeys, GrowsPlain}
use Rattle.dh_rows.specs.MadeOperations.{converted, divided, digit_added, or_zero, dealt}
use Rattle.dh_rows.proofs.Growing.{obeys_plain, obeys_before, plain_grows, plain_on, plain_pushed, pushed_grows}
use Rattle.dh_rows.proofs.PutBehind.{divided_behind, digit_put_behind}
use Rattle.dh_rows.proofs.PutSpread.{FitsWidth}
use Rattle.dh_rows.proofs.MovedPut.{zero_plain}
use Rattle.dh_rows.proofs.CountWords.{number_word}
use Rattle.dh_rows.proofs.CountedSums.{Counts, begun_behind, converted_shows, digit_counts, or_zero_counts}
use Rattle.dh_rows.proofs.CountedDivisions.{divided_counts}
use Rattle.dh_rows.proofs.CountedRows.{banks_least}

-- a number of a split, digit by digit
pub record IsDealt (copies : ℕ) (part : Dim) (a b : ℕ) (bound : ℕ) : Type 0 where
  pub row : b / part.banks * copies + a < bound
  pub number : (b / part.banks * copies + a) * part.banks + b % part.banks < bound

pub dealt_small : (width copies : ℕ) (part : Dim) (a b : ℕ) → FitsWidth width part → a < copies → b < part.size → copies * part.size < 2 ^ width → IsDealt copies part a b (2 ^ width)
dealt_small width copies part a b fits l m wide =
    let rows = part.size / part.banks in
    let q = quotient_below b part.banks part.size fits.dim.banks fits.dim.divides m in
    let row = place_below (b / part.banks) copies a rows q l in
    let number = place_below (b / part.banks * copies + a) part.banks (b % part.banks) (rows * copies) row (mod-lt b fits.dim.banks) in
    let more : rows * copies ≤ rows * copies * part.banks = le-mul_of_pos_right (rows * copies) fits.dim.banks in
    let all : rows * copies * part.banks ≡ copies * part.size = regroup rows copies part.banks ∙ ap (λ n. copies * n) (whole part.size part.banks fits.dim.divides) in
    record { row = omega (arith, row, more, all, wide); number = omega (arith, number, all, wide) }
  where
    regroup : (r c b : ℕ) → r * c * b ≡ c * (r * b)
    regroup r c b = omega arith

module _ (x : Readings) (width : ℕ) (few : width ≤ 64) where
  cut_counts : (os : List Operation) → x.first ≤ length os → (inner n : ℕ) → value_of (x.word inner) ≡ pos n → n < 2 ^ width → Obeys x (converted os inner width).operations
      → Counts x width (converted os inner width).value n
  cut_counts os begun inner n is small h = converted_shows x os begun inner width h ∙ (ap (λ z. word_of (kind.Unsigned width) z) is ∙ number_word width n small)

  pub dealt_shows : (os : List Operation) → x.first ≤ length os → (copies : ℕ) (part : Dim) (copy index a b : ℕ) → FitsWidth width part → copies < 2 ^ width → copies * part.size < 2 ^ width
      → value_of (x.word copy) ≡ pos a → value_of (x.word index) ≡ pos b → a < copies → b < part.size → Obeys x (dealt os width copies part copy index).operations
      → Counts x width (dealt os width copies part copy index).value ((b / part.banks * copies + a) * part.banks + b % part.banks)
  dealt_shows os begun copies part copy index a b fits some wide copy_is index_is l m h =
      let most : 2 ^ width ≤ 2 ^ 64 = pow_mono few in
      let c = converted os copy width in
      let d = converted c.operations index width in
      let q = divided d.operations width d.value part true in
      let r = digit_added q.operations q.quotient copies (Some c.value) in
      let n = digit_added r.operations r.sum part.banks q.remainder in
      let at_c = begun_behind x os c.operations (pushed_grows os None _) begun in
      let at_d = begun_behind x c.operations d.operations (pushed_grows c.operations None _) at_c in
      let divided_at : GrowsPlain d.operations q.operations = divided_behind d.operations width d.value part true in
      let row_at : GrowsPlain q.operations r.operations = digit_put_behind q.operations q.quotient copies (Some c.value) in
      let number_at : GrowsPlain r.operations n.operations = digit_put_behind r.operations r.sum part.banks q.remainder in
      let at_q = begun_behind x d.operations q.operations (plain_grows _ _ divided_at) at_d in
      let at_r = begun_behind x q.operations r.operations (plain_grows _ _ row_at) at_q in
      let at_n = begun_behind x r.operations n.operations (plain_grows _ _ number_at) at_r in
      let z = or_zero n.operations width n.sum in
      let zero_at : GrowsPlain n.operations z.operations = zero_plain n.operations width n.sum in
      let at_z = begun_behind x n.operations z.operations (plain_grows _ _ zero_at) at_n in
      let obeys_z = obeys_before x z.operations _ (pushed_grows z.operations None _) h in
      let obeys_n = obeys_plain x n.operations z.operations zero_at obeys_z in
      let obeys_r = obeys_plain x r.operations n.operations number_at obeys_n in
      let obeys_q = obeys_plain x q.operations r.operations row_at obeys_r in
      let obeys_d = obeys_plain x d.operations q.operations divided_at obeys_q in
      let obeys_c = obeys_before x c.operations d.operations (pushed_grows c.operations None _) obeys_d in
      let small = fits.small in
      let copy_counts = cut_counts os begun copy a copy_is (omega (arith, l, some)) obeys_c in
      let index_counts = cut_counts c.operations at_c index b index_is (omega (arith, m, small)) obeys_d in
      let dealt = dealt_small width copies part a b fits l m wide in
      let parts = divided_counts x width few d.operations at_d d.value part true fits b m index_counts obeys_q in
      let row = digit_counts x width q.operations at_q q.quotient copies (Some c.value) (b / part.banks) a (omega (arith, some, most)) dealt.row parts.quotient_is copy_counts obeys_r in
      let banks_few = banks_least part fits.dim in
      let number = digit_counts x width r.operations at_r r.sum part.banks q.remainder (b / part.banks * copies + a) (b % part.banks) (omega (arith, banks_few, small, most)) dealt.number row (parts.remainder_is refl) obeys_n in
      let cut = or_zero_counts x width n.operations at_n n.sum ((b / part.banks * copies + a) * part.banks + b % part.banks) number obeys_z in
      converted_shows x z.operations at_z z.value width h
      ∙ (ap (λ w. word_of (kind.Unsigned width) (value_of w)) cut ∙ number_word width ((b / part.banks * copies + a) * part.banks + b % part.banks) dealt.number)

  -- whatever the indices are, it shows a word of the width
  pub dealt_cuts : (os : List Operation) → x.first ≤ length os → (copies : ℕ) (part : Dim) (copy index : ℕ) → Obeys x (dealt os width copies part copy index).operations
      → (z : ℤ) × (x.word (dealt os width copies part copy index).value ≡ word_of (kind.Unsigned width) z)
  dealt_cuts os begun copies part copy index h =
      let c = converted os copy width in
      let d = converted c.operations index width in
      let q = divided d.operations width d.value part true in
      let r = digit_added q.operations q.quotient copies (Some c.value) in
      let n = digit_added r.operations r.sum part.banks q.remainder in
      let z = or_zero n.operations width n.sum in
      let grown = plain_on os c.operations z.operations (plain_pushed os _ refl)
      (plain_on c.operations d.operations z.operations (plain_pushed c.operations _ refl)
      (plain_on d.operations q.operations z.operations (divided_behind d.operations width d.value part true)
      (plain_on q.operations r.operations z.operations (digit_put_behind q.operations q.quotient copies (Some c.value))
      (plain_on r.operations n.operations z.operations (digit_put_behind r.operations r.sum part.banks q.remainder) (zero_plain n.operations width n.sum)))))
      in
      (value_of (x.word z.value), converted_shows x z.operations (begun_behind x os z.operations (plain_grows _ _ grown) begun) z.value width h)
