-- The numbers that rows and banks show: by induction over the dimensions, the number of the dimensions so far times
-- the rows (or banks) of the others, and the row (or bank) of the others.
use Rattle.std.proofs.Common.{◌≡◌, ℕ, zero, suc, ◌+◌, ◌*◌, ◌/◌, ◌%◌, ◌^◌, ◌<◌, ◌≤◌, Bool, true, false, List, None, refl, sym, ap, ◌∙◌, subst, arith, length, pos, pow_mono}
use Rattle.std.specs.Prelude.{Option, [], ◌∷◌}
use Rattle.std.specs.List.{AllByRecursion}
use Rattle.std.proofs.Math.Nat.{mod-lt, one-le-mul, le-mul_of_pos_right, mul-le-mul}
use Rattle.dh_value.specs.declared.kinds.Kind.TheVariants as kind
use Rattle.dh_value.specs.Words.{IsWidth, word_of, value_of}
use Rattle.dh_tree.specs.declared.tables.Dim.{Dim}
use Rattle.dh_tree.specs.Elements.{banks_of, rows_of, bank_of, row_of}
use Rattle.dh_tree.specs.Shapes.{IsDim}
use Rattle.dh_tree.specs.Tables.{elements_of}
use Rattle.dh_tree.proofs.BankElements.{whole, quotient_below}
use Rattle.dh_plan.specs.declared.operations.Operation.{Operation}
use Rattle.dh_rows.specs.declared.spreading.RowAndBank.{RowAndBank}
use Rattle.dh_rows.specs.Readings.{Readings, Obeys, GrowsPlain}
use Rattle.dh_rows.specs.RowsShown.{IndicesAreWithin, IsWideEnough, IsRowMade}
use Rattle.dh_rows.specs.MadeOperations.{Summed, Divided, Spread, converted, divided, digit_added, bank_spread, division_spread, dim_spread, all_spread, SpreadsEach}
use Rattle.dh_rows.proofs.Growing.{obeys_plain, plain_grows, plain_self, plain_on, pushed_grows}
use Rattle.dh_rows.proofs.PutBehind.{divided_behind, digit_put_behind, bank_behind, parts_behind, dim_behind}
use Rattle.dh_rows.proofs.PutSpread.{FitsWidth, makes_all}
use Rattle.dh_rows.proofs.CountWords.{number_word}
use Rattle.dh_rows.proofs.DigitNumbers.{digit_within, within_less, digit_joined}
use Rattle.dh_rows.proofs.CountedSums.{Counts, CountsOr, begun_behind, converted_shows, digit_counts}
use Rattle.dh_rows.proofs.CountedDivisions.{CountsDivided, divided_counts}

pub record CountsSpread (x : Readings) (width : ℕ) (s : Spread) (banked : Bool) (row bank : ℕ) : Type 0 where
  pub row_is : CountsOr x width s.row row
  pub bank_is : banked ≡ true → CountsOr x width s.bank bank

-- Sizes.

rows_some : (d : Dim) → IsDim d → 1 ≤ d.size / d.banks
rows_some d h = of (d.size / d.banks) (whole d.size d.banks h.divides)
  where
    of : (n : ℕ) → n * d.banks ≡ d.size → 1 ≤ n
    of zero e = let s = h.size in absurd (omega (arith, e, s))
    of (suc n) e = omega arith

pub banks_least : (d : Dim) → IsDim d → d.banks ≤ d.size
banks_least d h =
    let all = whole d.size d.banks h.divides in
    let m : d.banks ≤ d.size / d.banks * d.banks = more (d.size / d.banks) (rows_some d h) in
    omega (arith, all, m)
  where
    more : (n : ℕ) → 1 ≤ n → d.banks ≤ n * d.banks
    more zero l = absurd (omega (arith, l))
    more (suc n) l = omega arith

rows_least : (d : Dim) → IsDim d → d.size / d.banks ≤ d.size
rows_least d h =
    let all = whole d.size d.banks h.divides in
    let m : d.size / d.banks ≤ d.size / d.banks * d.banks = le-mul_of_pos_right (d.size / d.banks) h.banks in
    omega (arith, all, m)

all_rows_some : (ds : List Dim) → AllByRecursion IsDim ds → 1 ≤ rows_of ds
all_rows_some [] h = omega arith
all_rows_some (d ∷ ds) h = one-le-mul (rows_some d h.0) (all_rows_some ds h.1)

all_banks_some : (ds : List Dim) → AllByRecursion IsDim ds → 1 ≤ banks_of ds
all_banks_some [] h = omega arith
all_banks_some (d ∷ ds) h = one-le-mul h.0.banks (all_banks_some ds h.1)

all_rows_least : (ds : List Dim) → AllByRecursion IsDim ds → rows_of ds ≤ elements_of ds
all_rows_least [] h = omega arith
all_rows_least (d ∷ ds) h = mul-le-mul (rows_least d h.0) (all_rows_least ds h.1)

all_banks_least : (ds : List Dim) → AllByRecursion IsDim ds → banks_of ds ≤ elements_of ds
all_banks_least [] h = omega arith
all_banks_least (d ∷ ds) h = mul-le-mul (banks_least d h.0) (all_banks_least ds h.1)

elements_some : (ds : List Dim) → AllByRecursion IsDim ds → 1 ≤ elements_of ds
elements_some [] h = omega arith
elements_some (d ∷ ds) h = one-le-mul h.0.size (elements_some ds h.1)

size_least : (a b : ℕ) → 1 ≤ b → a ≤ a * b
size_least a b h = le-mul_of_pos_right a h

rest_least : (a b : ℕ) → 1 ≤ a → b ≤ a * b
rest_least zero b h = absurd (omega (arith, h))
rest_least (suc a) b h = omega arith

pub all_fit : (width : ℕ) (ds : List Dim) → AllByRecursion IsDim ds → elements_of ds < 2 ^ width → AllByRecursion (FitsWidth width) ds
all_fit width [] h l = tt
all_fit width (d ∷ ds) h l =
    let own = size_least d.size (elements_of ds) (elements_some ds h.1) in
    let rest = rest_least d.size (elements_of ds) h.0.size in
    (record { dim = h.0; small = omega (arith, own, l) }, all_fit width ds h.1 (omega (arith, rest, l)))

all_behind : (ds : List Dim) (is : List ℕ) (os : List Operation) (width : ℕ) (banked : Bool) (row bank : Option ℕ) → GrowsPlain os (all_spread os width ds is banked row bank).operations
all_behind [] [] os width banked row bank = plain_self os
all_behind [] (i ∷ is) os width banked row bank = plain_self os
all_behind (d ∷ ds) [] os width banked row bank = plain_self os
all_behind (d ∷ ds) (i ∷ is) os width banked row bank =
    turned (dim_spread os width d i banked row bank) (dim_behind os width d i banked row bank)
    (all_behind ds is (dim_spread os width d i banked row bank).operations width banked (dim_spread os width d i banked row bank).row (dim_spread os width d i banked row bank).bank)
  where
    turned : (s : Spread) → GrowsPlain os s.operations → GrowsPlain s.operations (all_spread s.operations width ds is banked s.row s.bank).operations → GrowsPlain os (all_spread s.operations width ds is banked s.row s.bank).operations
    turned s g h = plain_on os s.operations _ g h

pub spread_grows : (width : ℕ) (ds : List Dim) (is : List ℕ) (banked : Bool) (os new : List Operation) (s : RowAndBank) → SpreadsEach os new width ds is banked s → GrowsPlain os new
spread_grows width ds is banked os new s e = subst (λ (l : List Operation). GrowsPlain os l) (sym e.0) (all_behind ds is os width banked None None)

module _ (x : Readings) (width : ℕ) (few : width ≤ 64) (sized : IsWidth width) where
  bank_counts : (d : Dim) (banked : Bool) (bank digit : Option ℕ) (row : Summed) → x.first ≤ length row.operations → (r b n : ℕ) → d.banks < 2 ^ 64 → b * d.banks + n < 2 ^ width → CountsOr x width row.sum r
      → (banked ≡ true → CountsOr x width bank b) → (banked ≡ true → CountsOr x width digit n) → Obeys x (bank_spread d banked bank digit row).operations
      → CountsSpread x width (bank_spread d banked bank digit row) banked r (b * d.banks + n)
  bank_counts d false bank digit row begun r b n small fits r_is b_is n_is h = record { row_is = r_is; bank_is = λ e. absurd (false_true e) }
    where
      false_true : ◌≡◌ {A = Bool} false true → ⊥
      false_true e = cc
  bank_counts d true bank digit row begun r b n small fits r_is b_is n_is h = record { row_is = r_is; bank_is = λ e. digit_counts x width row.operations begun bank d.banks digit b n small fits (b_is refl) (n_is refl) h }

  parts_counts : (d : Dim) (banked : Bool) (row bank : Option ℕ) (m : Divided) → x.first ≤ length m.operations → (r b q n : ℕ) → d.size / d.banks < 2 ^ 64 → d.banks < 2 ^ 64
      → r * (d.size / d.banks) + q < 2 ^ width → b * d.banks + n < 2 ^ width → CountsOr x width row r → (banked ≡ true → CountsOr x width bank b) → CountsDivided x width m banked q n
      → Obeys x (division_spread d banked row bank m).operations → CountsSpread x width (division_spread d banked row bank m) banked (r * (d.size / d.banks) + q) (b * d.banks + n)
  parts_counts d banked row bank m begun r b q n few_rows few_banks row_fits bank_fits r_is b_is c h =
      bank_counts d banked bank m.remainder (digit_added m.operations row (d.size / d.banks) m.quotient) (begun_behind x m.operations _ (plain_grows _ _ (digit_put_behind m.operations row (d.size / d.banks) m.quotient)) begun)
      (r * (d.size / d.banks) + q) b n few_banks bank_fits
      (digit_counts x width m.operations begun row (d.size / d.banks) m.quotient r q few_rows row_fits r_is c.quotient_is
      (obeys_plain x _ _ (bank_behind d banked bank m.remainder (digit_added m.operations row (d.size / d.banks) m.quotient)) h))
      b_is c.remainder_is h

  dim_counts : (os : List Operation) → x.first ≤ length os → (d : Dim) (index : ℕ) (banked : Bool) (row bank : Option ℕ) (r b v : ℕ) → FitsWidth width d → value_of (x.word index) ≡ pos v → v < d.size
      → r * (d.size / d.banks) + v / d.banks < 2 ^ width → b * d.banks + v % d.banks < 2 ^ width → CountsOr x width row r → (banked ≡ true → CountsOr x width bank b)
      → Obeys x (dim_spread os width d index banked row bank).operations
      → CountsSpread x width (dim_spread os width d index banked row bank) banked (r * (d.size / d.banks) + v / d.banks) (b * d.banks + v % d.banks)
  dim_counts os begun d index banked row bank r b v fits is inside row_fits bank_fits r_is b_is h =
      parts_counts d banked row bank (divided at width index_made d banked) (begun_behind x at _ (plain_grows _ _ behind) begun_at) r b (v / d.banks) (v % d.banks) (omega (arith, rows, small, most)) (omega (arith, banks, small, most)) row_fits bank_fits r_is b_is
      (divided_counts x width few at begun_at index_made d banked fits v inside shown divided_obeyed) h
    where
      at : List Operation
      at = (converted os index width).operations

      index_made : ℕ
      index_made = (converted os index width).value

      behind : GrowsPlain (converted os index width).operations (divided (converted os index width).operations width (converted os index width).value d banked).operations
      behind = divided_behind (converted os index width).operations width (converted os index width).value d banked

      begun_at : x.first ≤ length (converted os index width).operations
      begun_at = begun_behind x os _ (pushed_grows os None _) begun

      divided_obeyed : Obeys x (divided (converted os index width).operations width (converted os index width).value d banked).operations
      divided_obeyed = obeys_plain x _ _ (parts_behind d banked row bank (divided (converted os index width).operations width (converted os index width).value d banked)) h

      small : d.size < 2 ^ width
      small = fits.small

      most : 2 ^ width ≤ 2 ^ 64
      most = pow_mono few

      rows : d.size / d.banks ≤ d.size
      rows = rows_least d fits.dim

      banks : d.banks ≤ d.size
      banks = banks_least d fits.dim

      shown : Counts x width (converted os index width).value v
      shown =
          converted_shows x os begun index width (obeys_plain x _ _ behind divided_obeyed)
          ∙ (ap (λ z. word_of (kind.Unsigned width) z) is ∙ number_word width v (omega (arith, inside, small)))

  within_some : (d : Dim) (ds : List Dim) (indices : List ℕ) (numbers : List ℕ) → IndicesAreWithin x (d ∷ ds) [] numbers → ⊥
  within_some d ds indices [] h = h
  within_some d ds indices (v ∷ vs) h = h

  all_counts : (ds : List Dim) (is vs : List ℕ) (os : List Operation) → x.first ≤ length os → (banked : Bool) (row bank : Option ℕ) (r b : ℕ) → AllByRecursion IsDim ds → AllByRecursion (FitsWidth width) ds
      → IndicesAreWithin x ds is vs → (r + 1) * rows_of ds ≤ 2 ^ width → (b + 1) * banks_of ds ≤ 2 ^ width → CountsOr x width row r → (banked ≡ true → CountsOr x width bank b)
      → Obeys x (all_spread os width ds is banked row bank).operations
      → CountsSpread x width (all_spread os width ds is banked row bank) banked (r * rows_of ds + row_of ds vs) (b * banks_of ds + bank_of ds vs)
  all_counts [] [] [] os begun banked row bank r b dims fits w rows banks r_is b_is h = record {
    row_is = subst (λ n. CountsOr x width row n) (one r) r_is;
    bank_is = λ e. subst (λ n. CountsOr x width bank n) (one b) (b_is e);
  }
    where
      one : (n : ℕ) → n ≡ n * 1 + 0
      one n = omega arith
  all_counts [] [] (v ∷ vs) os begun banked row bank r b dims fits w rows banks r_is b_is h = elim w [ ]
  all_counts [] (i ∷ is) vs os begun banked row bank r b dims fits w rows banks r_is b_is h = none vs w
    where
      none : (vs : List ℕ) → IndicesAreWithin x [] (i ∷ is) vs → CountsSpread x width (all_spread os width [] (i ∷ is) banked row bank) banked (r * rows_of [] + row_of [] vs) (b * banks_of [] + bank_of [] vs)
      none [] w = elim w [ ]
      none (v ∷ vs) w = elim w [ ]
  all_counts (d ∷ ds) [] vs os begun banked row bank r b dims fits w rows banks r_is b_is h = absurd (within_some d ds [] vs w)
  all_counts (d ∷ ds) (i ∷ is) [] os begun banked row bank r b dims fits w rows banks r_is b_is h = elim w [ ]
  all_counts (d ∷ ds) (i ∷ is) (v ∷ vs) os begun banked row bank r b dims fits w rows banks r_is b_is h =
      joined (all_spread s.operations width ds is banked s.row s.bank)
      (all_counts ds is vs s.operations (begun_behind x os _ (plain_grows _ _ (dim_behind os width d i banked row bank)) begun) banked s.row s.bank (r * (d.size / d.banks) + v / d.banks) (b * d.banks + v % d.banks) dims.1 fits.1 w.1
      rows_on banks_on told.row_is told.bank_is h)
    where
      s : Spread
      s = dim_spread os width d i banked row bank

      rows_on : (r * (d.size / d.banks) + v / d.banks + 1) * rows_of ds ≤ 2 ^ width
      rows_on = digit_within r (d.size / d.banks) (v / d.banks) (rows_of ds) (2 ^ width) (quotient_below v d.banks d.size dims.0.banks dims.0.divides w.0.1) rows

      banks_on : (b * d.banks + v % d.banks + 1) * banks_of ds ≤ 2 ^ width
      banks_on = digit_within b d.banks (v % d.banks) (banks_of ds) (2 ^ width) (mod-lt v dims.0.banks) banks

      told : CountsSpread x width (dim_spread os width d i banked row bank) banked (r * (d.size / d.banks) + v / d.banks) (b * d.banks + v % d.banks)
      told =
          dim_counts os begun d i banked row bank r b v fits.0 w.0.0 w.0.1 (within_less _ (rows_of ds) (2 ^ width) (all_rows_some ds dims.1) rows_on) (within_less _ (banks_of ds) (2 ^ width) (all_banks_some ds dims.1) banks_on) r_is b_is
          (obeys_plain x _ _ (all_behind ds is (dim_spread os width d i banked row bank).operations width banked (dim_spread os width d i banked row bank).row (dim_spread os width d i banked row bank).bank) h)

      joined : (t : Spread) → CountsSpread x width t banked ((r * (d.size / d.banks) + v / d.banks) * rows_of ds + row_of ds vs) ((b * d.banks + v % d.banks) * banks_of ds + bank_of ds vs)
          → CountsSpread x width t banked (r * rows_of (d ∷ ds) + row_of (d ∷ ds) (v ∷ vs)) (b * banks_of (d ∷ ds) + bank_of (d ∷ ds) (v ∷ vs))
      joined t c = record {
        row_is = subst (λ n. CountsOr x width t.row n) (digit_joined r (d.size / d.banks) (v / d.banks) (rows_of ds) (row_of ds vs)) c.row_is;
        bank_is = λ e. subst (λ n. CountsOr x width t.bank n) (digit_joined b d.banks (v % d.banks) (banks_of ds) (bank_of ds vs)) (c.bank_is e);
      }

-- All of it, of the indices of an element.
module _ (width : ℕ) (dims : List Dim) (indices : List ℕ) (banked : Bool) (old : List Operation) (h : IsWideEnough width dims) where
  abbrev pub whole_spread : Spread
  whole_spread = all_spread old width dims indices banked None None

  fit : AllByRecursion (FitsWidth width) dims
  fit = all_fit width dims h.dims_are h.most

  one_times : (n m : ℕ) → n ≤ m → m < 2 ^ width → (0 + 1) * n ≤ 2 ^ width
  one_times n m l k = omega (arith, l, k)

  shown : (x : Readings) (numbers : List ℕ) → x.first ≤ length old → Obeys x (all_spread old width dims indices banked None None).operations → IndicesAreWithin x dims indices numbers
      → CountsSpread x width (all_spread old width dims indices banked None None) banked (row_of dims numbers) (bank_of dims numbers)
  shown x numbers begun obeys within =
      let c = all_counts x width h.sized.1 h.sized dims indices numbers old begun banked None None 0 0 h.dims_are fit within (one_times (rows_of dims) (elements_of dims) (all_rows_least dims h.dims_are) h.most)
      (one_times (banks_of dims) (elements_of dims) (all_banks_least dims h.dims_are) h.most) refl (λ e. refl) obeys in
      record {
        row_is = subst (λ n. CountsOr x width (all_spread old width dims indices banked None None).row n) (no_times (rows_of dims) (row_of dims numbers)) c.row_is;
        bank_is = λ e. subst (λ n. CountsOr x width (all_spread old width dims indices banked None None).bank n) (no_times (banks_of dims) (bank_of dims numbers)) (c.bank_is e);
      }
    where
      no_times : (n m : ℕ) → 0 * n + m ≡ m
      no_times n m = omega arith

  pub row_made : IsRowMade width dims indices banked old (all_spread old width dims indices banked None None).operations (all_spread old width dims indices banked None None).row (all_spread old width dims indices banked None None).bank
  row_made = record {
    adds = λ x clock begun is. (makes_all x clock width h.sized dims indices old begun banked None None fit is tt tt).adds;
    row_stands = λ x clock begun is. (makes_all x clock width h.sized dims indices old begun banked None None fit is tt tt).row;
    bank_stands = λ x clock begun is. (makes_all x clock width h.sized dims indices old begun banked None None fit is tt tt).bank;
    row_shown = λ x numbers begun obeys within. (shown x numbers begun obeys within).row_is;
    bank_shown = λ x numbers begun obeys within e. (shown x numbers begun obeys within).bank_is e;
  }

  -- said of what the code has
  pub row_made_as : (new : List Operation) (row bank : Option ℕ) → (new ≡ whole_spread.operations) × ((row ≡ whole_spread.row) × (bank ≡ whole_spread.bank)) → IsRowMade width dims indices banked old new row bank
  row_made_as new row bank e =
      subst (λ os. IsRowMade width dims indices banked old os row bank) (sym e.0)
      (subst (λ r. IsRowMade width dims indices banked old (all_spread old width dims indices banked None None).operations r bank) (sym e.1.0)
      (subst (λ b. IsRowMade width dims indices banked old (all_spread old width dims indices banked None None).operations (all_spread old width dims indices banked None None).row b) (sym e.1.1) row_made))
