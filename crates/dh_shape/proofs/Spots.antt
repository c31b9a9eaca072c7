-- Banks and rows of elements, while the dimensions are gone through from the outside: what was read so
-- far is the number of the dimensions before, row-major.
use Rattle.std.proofs.Common.{◌≡◌, ℕ, suc, ◌+◌, ◌*◌, ◌/◌, ◌%◌, ◌<◌, ◌≤◌, ◌&&◌, nat_lt, true, List, [], ◌∷◌, length, refl, sym, ap, ◌∙◌, subst, arith}
use Rattle.std.specs.List.{AllByRecursion}
use Rattle.std.proofs.lemmas.Bool.Decides.{nat_tests}
use Rattle.std.proofs.Math.Nat.{mul-le-mul_right, mul-le-mul_left, mul_assoc, mul_comm, add-mul, div-le_self, div-lt_iff_lt-mul, zero-mul, one-mul, mul-one}
use Rattle.dh_tree.specs.declared.tables.Dim.{Dim}
use Rattle.dh_tree.specs.Elements.{banks_of, rows_of, bank_of, row_of, is_within}
use Rattle.dh_tree.specs.Shapes.{IsDim, most_banks}
use Rattle.dh_tree.specs.Tables.{elements_of, most_elements}

-- numbers
next_below : (b r m B K : ℕ) → r < m → (b + 1) * (m * B) ≤ K → (b * m + r + 1) * B ≤ K
next_below b r m B K less h =
    let one : b * m + r + 1 ≤ (b + 1) * m = omega (arith, add-mul b 1 m) in
    let up = mul-le-mul_right B one in
    omega (arith, up, mul_assoc (b + 1) m B)

next_is : (whole b r m B t : ℕ) → whole ≡ b * (m * B) + (r * B + t) → whole ≡ (b * m + r) * B + t
next_is whole b r m B t e = omega (arith, mul_assoc b m B, add-mul (b * m) r B)

quotient_below : (i n m : ℕ) → 1 ≤ m → n % m ≡ 0 → i < n → i / m < n / m
quotient_below i n m least whole below = (div-lt_iff_lt-mul {k = m} {x = i} {y = n / m} (omega arith)).1 (omega (arith, mul_comm (n / m) m))

one_le : (a b : ℕ) → 1 ≤ a → 1 ≤ b → 1 ≤ a * b
one_le a b h k = let up = mul-le-mul_right b h in omega (arith, up)

least_quotient : (n m : ℕ) → 1 ≤ n → 1 ≤ m → n % m ≡ 0 → 1 ≤ n / m
least_quotient n m h k whole = let z = quotient_below 0 n m k whole (omega arith) in omega (arith, z)

banks_least : (ds : List Dim) → AllByRecursion IsDim ds → 1 ≤ banks_of ds
banks_least [] h = omega arith
banks_least (d ∷ ds) h = one_le d.banks (banks_of ds) h.0.banks (banks_least ds h.1)

rows_least : (ds : List Dim) → AllByRecursion IsDim ds → 1 ≤ rows_of ds
rows_least [] h = omega arith
rows_least (d ∷ ds) h = one_le (d.size / d.banks) (rows_of ds) (least_quotient d.size d.banks h.0.size h.0.banks h.0.divides) (rows_least ds h.1)

rows_within : (ds : List Dim) → rows_of ds ≤ elements_of ds
rows_within [] = omega arith
rows_within (d ∷ ds) =
    let few = mul-le-mul_right (rows_of ds) (div-le_self d.size d.banks) in
    let more = mul-le-mul_left {m = rows_of ds} {n = elements_of ds} d.size (rows_within ds) in
    omega (arith, few, more)

-- what stands of an index behind the dimensions that were gone through
pub record Going (dims : List Dim) (index : List ℕ) (bank row : ℕ) (ds : List Dim) (is : List ℕ) : Type 0 where
  pub kept : AllByRecursion IsDim ds
  pub long : length is ≡ length ds
  pub few_banks : (bank + 1) * banks_of ds ≤ most_banks
  pub few_rows : (row + 1) * rows_of ds ≤ most_elements
  pub bank_is : bank_of dims index ≡ bank * banks_of ds + bank_of ds is
  pub row_is : row_of dims index ≡ row * rows_of ds + row_of ds is
  pub stays : is_within dims index ≡ is_within ds is

pub starts : (dims : List Dim) (index : List ℕ) → AllByRecursion IsDim dims → banks_of dims ≤ most_banks → elements_of dims ≤ most_elements → length index ≡ length dims → Going dims index 0 0 dims index
starts dims index kept banks elements long =
    record {
      kept = kept;
      long = long;
      few_banks = omega (arith, one-mul (banks_of dims));
      few_rows = omega (arith, one-mul (rows_of dims), rows_within dims);
      bank_is = omega (arith, zero-mul (banks_of dims));
      row_is = omega (arith, zero-mul (rows_of dims));
      stays = refl;
    }

pub goes : {dims : List Dim} {index : List ℕ} {bank row : ℕ} (d : Dim) (ds : List Dim) (i : ℕ) (is : List ℕ)
    → Going dims index bank row (d ∷ ds) (i ∷ is) → i < d.size
    → Going dims index (bank * d.banks + i % d.banks) (row * (d.size / d.banks) + i / d.banks) ds is
goes {dims = dims} {index = index} {bank = bank} {row = row} d ds i is g below =
    let least : 1 ≤ d.banks = g.kept.0.banks in
    let test : nat_lt i d.size ≡ true = grind (arith, nat_tests) in
    record {
      kept = g.kept.1;
      long = (let l : suc (length is) ≡ suc (length ds) = g.long in omega (arith, l));
      few_banks = next_below bank (i % d.banks) d.banks (banks_of ds) most_banks (omega arith) g.few_banks;
      few_rows = next_below row (i / d.banks) (d.size / d.banks) (rows_of ds) most_elements (quotient_below i d.size d.banks least g.kept.0.divides below) g.few_rows;
      bank_is = next_is (bank_of dims index) bank (i % d.banks) d.banks (banks_of ds) (bank_of ds is) g.bank_is;
      row_is = next_is (row_of dims index) row (i / d.banks) (d.size / d.banks) (rows_of ds) (row_of ds is) g.row_is;
      stays = g.stays ∙ ap (λ b. b && is_within ds is) test;
    }

-- a number so far is small
pub bank_small : {dims : List Dim} {index : List ℕ} {bank row : ℕ} {ds : List Dim} {is : List ℕ} → Going dims index bank row ds is → bank + 1 ≤ most_banks
bank_small {bank = bank} {ds = ds} g =
    let up = mul-le-mul_left {m = 1} {n = banks_of ds} (bank + 1) (banks_least ds g.kept) in
    omega (arith, up, g.few_banks, mul-one (bank + 1))

pub row_small : {dims : List Dim} {index : List ℕ} {bank row : ℕ} {ds : List Dim} {is : List ℕ} → Going dims index bank row ds is → row + 1 ≤ most_elements
row_small {row = row} {ds = ds} g =
    let up = mul-le-mul_left {m = 1} {n = rows_of ds} (row + 1) (rows_least ds g.kept) in
    omega (arith, up, g.few_rows, mul-one (row + 1))

-- the same of two lists that are known to be these
pub starts_at : (dims : List Dim) (index : List ℕ) (ds : List Dim) (is : List ℕ) → ds ≡ dims → is ≡ index → AllByRecursion IsDim dims → banks_of dims ≤ most_banks → elements_of dims ≤ most_elements → length index ≡ length dims
    → Going dims index 0 0 ds is
starts_at dims index ds is e f kept banks elements long =
    subst (λ (l : List Dim). Going dims index 0 0 l is) (sym e) (subst (λ (l : List ℕ). Going dims index 0 0 dims l) (sym f) (starts dims index kept banks elements long))

pub goes_on : (dims : List Dim) (index : List ℕ) (bank row : ℕ) (d : Dim) (ds : List Dim) (i : ℕ) (is : List ℕ) (fs : List Dim) (gs : List ℕ)
    → Going dims index bank row fs gs → (fs ≡ d ∷ ds) × (gs ≡ i ∷ is) → i < d.size
    → Going dims index (bank * d.banks + i % d.banks) (row * (d.size / d.banks) + i / d.banks) ds is
goes_on dims index bank row d ds i is fs gs g e below =
    goes d ds i is (subst (λ (l : List Dim). Going dims index bank row l (i ∷ is)) e.0 (subst (λ (l : List ℕ). Going dims index bank row fs l) e.1 g)) below

pub next_bank : (dims : List Dim) (index : List ℕ) (bank row : ℕ) (d : Dim) (ds : List Dim) (i : ℕ) (is : List ℕ) (fs : List Dim) (gs : List ℕ)
    → Going dims index bank row fs gs → (fs ≡ d ∷ ds) × (gs ≡ i ∷ is) → i < d.size → bank * d.banks + i % d.banks + 1 ≤ most_banks
next_bank dims index bank row d ds i is fs gs g e below = bank_small (goes_on dims index bank row d ds i is fs gs g e below)

pub next_row : (dims : List Dim) (index : List ℕ) (bank row : ℕ) (d : Dim) (ds : List Dim) (i : ℕ) (is : List ℕ) (fs : List Dim) (gs : List ℕ)
    → Going dims index bank row fs gs → (fs ≡ d ∷ ds) × (gs ≡ i ∷ is) → i < d.size → row * (d.size / d.banks) + i / d.banks + 1 ≤ most_elements
next_row dims index bank row d ds i is fs gs g e below = row_small (goes_on dims index bank row d ds i is fs gs g e below)
