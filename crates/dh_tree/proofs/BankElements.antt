-- An element within its dimensions lies in one of the banks, in one of the rows, and has a place among all
-- elements; its bank and row tell that place. So does each row of a bank have a place among all elements.
-- By induction over the dimensions: an index i is taken apart into i mod m and i div m, and the numbers of a
-- row-major order are taken apart by division by the number that the other dimensions have.
use Rattle.std.proofs.Common.{◌≡◌, ℕ, ◌+◌, ◌*◌, ◌/◌, ◌%◌, ◌<◌, ◌≤◌, ◌&&◌, nat_lt, Bool, true, false, List, [], ◌∷◌, refl, sym, subst, arith}
use Rattle.std.specs.List.{AllByRecursion}
use Rattle.std.proofs.lemmas.Bool.Decides.{nat_tests}
use Rattle.std.proofs.lemmas.Nat.{mul-add-lt, div-mul-add, mod-mul-add, div-add-mod'}
use Rattle.std.proofs.Math.Nat.{div-lt_iff_lt-mul, mod-lt, mul_comm}
use Rattle.dh_tree.specs.declared.tables.Dim.{Dim}
use Rattle.dh_tree.specs.Elements.{banks_of, rows_of, bank_of, row_of, position_of, position_in_bank, is_within}
use Rattle.dh_tree.specs.Shapes.{IsDim}
use Rattle.dh_tree.specs.Tables.{elements_of}

-- numbers

-- row a and column b of h rows of w places
pub place_below : (a w b h : ℕ) → a < h → b < w → a * w + b < h * w
place_below a w b h p q = subst (λ (n : ℕ). a * w + b < n) (mul_comm w h) (mul-add-lt a w b h p q)

pub whole : (size m : ℕ) → size % m ≡ 0 → size / m * m ≡ size
whole size m e = let d = div-add-mod' size m in omega arith

pub quotient_below : (i m size : ℕ) → 1 ≤ m → size % m ≡ 0 → i < size → i / m < size / m
quotient_below i m size l e h = (div-lt_iff_lt-mul {k = m} {x = i} {y = size / m} l).1 (subst (λ (n : ℕ). i < n) (sym (whole size m e)) h)

pub column_exists : (n h w : ℕ) → n < h * w → 1 ≤ w
column_exists n h w l = by w l
  where
    by : (w : ℕ) → n < h * w → 1 ≤ w
    by w l = grind arith

pub row_below : (n h w : ℕ) → n < h * w → n / w < h
row_below n h w l = (div-lt_iff_lt-mul {k = w} {x = n} {y = h} (column_exists n h w l)).1 l

pub column_below : (n h w : ℕ) → n < h * w → n % w < w
column_below n h w l = mod-lt n {m = w} (column_exists n h w l)

-- an index and the others are within their dimensions
both_within : (a b : Bool) → (a && b) ≡ true → (a ≡ true) × (b ≡ true)
both_within true b e = (refl, e)
both_within false b e = cc

below : (i size : ℕ) → nat_lt i size ≡ true → i < size
below i size e = grind (arith, nat_tests)

first_within : (d : Dim) (i : ℕ) (ds : List Dim) (is : List ℕ) → is_within (d ∷ ds) (i ∷ is) ≡ true → i < d.size
first_within d i ds is e = below i d.size (both_within (nat_lt i d.size) (is_within ds is) e).0

rest_within : (d : Dim) (i : ℕ) (ds : List Dim) (is : List ℕ) → is_within (d ∷ ds) (i ∷ is) ≡ true → is_within ds is ≡ true
rest_within d i ds is e = (both_within (nat_lt i d.size) (is_within ds is) e).1

-- elements by their indices

pub bank_below : (dims : List Dim) (indices : List ℕ) → AllByRecursion IsDim dims → is_within dims indices ≡ true → bank_of dims indices < banks_of dims
bank_below [] [] h e = omega arith
bank_below [] (i ∷ is) h e = cc
bank_below (d ∷ ds) [] h e = cc
bank_below (d ∷ ds) (i ∷ is) h e =
    place_below (i % d.banks) (banks_of ds) (bank_of ds is) d.banks (mod-lt i {m = d.banks} h.0.banks) (bank_below ds is h.1 (rest_within d i ds is e))

pub row_within : (dims : List Dim) (indices : List ℕ) → AllByRecursion IsDim dims → is_within dims indices ≡ true → row_of dims indices < rows_of dims
row_within [] [] h e = omega arith
row_within [] (i ∷ is) h e = cc
row_within (d ∷ ds) [] h e = cc
row_within (d ∷ ds) (i ∷ is) h e =
    place_below (i / d.banks) (rows_of ds) (row_of ds is) (d.size / d.banks) (quotient_below i d.banks d.size h.0.banks h.0.divides (first_within d i ds is e))
    (row_within ds is h.1 (rest_within d i ds is e))

pub position_below : (dims : List Dim) (indices : List ℕ) → is_within dims indices ≡ true → position_of dims indices < elements_of dims
position_below [] [] e = omega arith
position_below [] (i ∷ is) e = cc
position_below (d ∷ ds) [] e = cc
position_below (d ∷ ds) (i ∷ is) e =
    place_below i (elements_of ds) (position_of ds is) d.size (first_within d i ds is e) (position_below ds is (rest_within d i ds is e))

-- the bank and row of an element tell its place
pub position_told : (dims : List Dim) (indices : List ℕ) → AllByRecursion IsDim dims → is_within dims indices ≡ true → position_in_bank dims (bank_of dims indices) (row_of dims indices) ≡ position_of dims indices
position_told [] [] h e = refl
position_told [] (i ∷ is) h e = cc
position_told (d ∷ ds) [] h e = cc
position_told (d ∷ ds) (i ∷ is) h e =
    let within = rest_within d i ds is e in
    let b = bank_below ds is h.1 within in
    let r = row_within ds is h.1 within in
    step d i (banks_of ds) (bank_of ds is) (rows_of ds) (row_of ds is) (elements_of ds) (position_of ds is) (position_in_bank ds) b r (position_told ds is h.1 within)
  where
    step : (d : Dim) (i banks bank rows row elements position : ℕ) (inner : ℕ → ℕ → ℕ) → bank < banks → row < rows → inner bank row ≡ position
        → ((((i / d.banks) * rows + row) / rows) * d.banks + ((i % d.banks) * banks + bank) / banks) * elements + inner (((i % d.banks) * banks + bank) % banks) (((i / d.banks) * rows + row) % rows)
        ≡ i * elements + position
    step d i banks bank rows row elements position inner b r e =
        let row_part : ((i / d.banks) * rows + row) / rows ≡ i / d.banks = div-mul-add (i / d.banks) rows row r in
        let bank_part : ((i % d.banks) * banks + bank) / banks ≡ i % d.banks = div-mul-add (i % d.banks) banks bank b in
        let row_rest : ((i / d.banks) * rows + row) % rows ≡ row = mod-mul-add (i / d.banks) rows row r in
        let bank_rest : ((i % d.banks) * banks + bank) % banks ≡ bank = mod-mul-add (i % d.banks) banks bank b in
        let index : (i / d.banks) * d.banks + i % d.banks ≡ i = div-add-mod' i d.banks in
        let first : ((((i / d.banks) * rows + row) / rows) * d.banks + ((i % d.banks) * banks + bank) / banks) ≡ i = cc in
        let second : inner (((i % d.banks) * banks + bank) % banks) (((i / d.banks) * rows + row) % rows) ≡ position = cc in
        cc

-- each row of a bank is an element
pub in_bank_below : (dims : List Dim) (bank row : ℕ) → AllByRecursion IsDim dims → bank < banks_of dims → row < rows_of dims → position_in_bank dims bank row < elements_of dims
in_bank_below [] bank row h b r = omega arith
in_bank_below (d ∷ ds) bank row h b r =
    let index : (row / rows_of ds) * d.banks + bank / banks_of ds < d.size / d.banks * d.banks =
    place_below (row / rows_of ds) d.banks (bank / banks_of ds) (d.size / d.banks) (row_below row (d.size / d.banks) (rows_of ds) r) (row_below bank d.banks (banks_of ds) b)
    in
    place_below ((row / rows_of ds) * d.banks + bank / banks_of ds) (elements_of ds) (position_in_bank ds (bank % banks_of ds) (row % rows_of ds)) d.size
    (subst (λ (n : ℕ). (row / rows_of ds) * d.banks + bank / banks_of ds < n) (whole d.size d.banks h.0.divides) index)
    (in_bank_below ds (bank % banks_of ds) (row % rows_of ds) h.1 (column_below bank d.banks (banks_of ds) b) (column_below row (d.size / d.banks) (rows_of ds) r))
