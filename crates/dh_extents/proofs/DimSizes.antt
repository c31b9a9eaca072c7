-- Banks, rows and elements of dimensions: none has more than the dimensions have elements.
use Rattle.std.proofs.Common.{◌≡◌, ℕ, zero, suc, ◌+◌, ◌-◌, ◌*◌, ◌/◌, ◌%◌, ◌^◌, ◌<◌, ◌≤◌, List, [], ◌∷◌, length, drop, ap, sym, ◌∙◌, subst, arith}
use Rattle.std.specs.Prelude.{slice_index_or}
use Rattle.std.proofs.Math.ListN.{take}
use Rattle.std.proofs.Math.Seq.{take-length}
use Rattle.std.specs.List.{AllByRecursion}
use Rattle.std.proofs.Math.Nat.{div-le_self, mul-le-mul, one-le-mul, div-mul_cancel, mod-lt, mul_comm}
use Rattle.std.proofs.lemmas.Nat.{mul-add-lt, div_below}
use Rattle.std.proofs.lemmas.Nat.Gcd.{dvd_of_mod-eq-zero}
use Rattle.dh_tree.specs.declared.tables.Dim.{Dim}
use Rattle.dh_tree.specs.Elements.{banks_of, rows_of}
use Rattle.dh_tree.specs.Shapes.{IsDim}
use Rattle.dh_tree.specs.Tables.{elements_of, most_elements}
use Rattle.dh_extents.specs.Extents.{AreDims}

-- the dimensions behind the first
abbrev pub behind : List Dim → List Dim
behind ds = take (length ds - 1) (drop 1 ds)

pub first_and_behind : (ds : List Dim) (d : Dim) → 1 ≤ length ds → ds ≡ slice_index_or ds 0 d ∷ behind ds
first_and_behind [] d h = absurd (never h)
  where
    never : 1 ≤ 0 → ⊥
    never e = omega (arith, e)
first_and_behind (x ∷ ds) d h = ap (λ l. x ∷ l) (sym (ap (λ n. take n ds) (less (length ds)) ∙ take-length ds))
  where
    less : (n : ℕ) → suc n - 1 ≡ n
    less n = omega arith

-- a dimension has one row at least
quotient_some : (size banks : ℕ) → 1 ≤ size → 1 ≤ banks → size % banks ≡ 0 → 1 ≤ size / banks
quotient_some size banks s b e = by (size / banks) (div-mul_cancel banks (dvd_of_mod-eq-zero banks e)) s
  where
    by : (q : ℕ) → q * banks ≡ size → 1 ≤ size → 1 ≤ q
    by zero e s = omega (arith, e, s)
    by (suc q) e s = omega arith

pub banks_below : (size banks : ℕ) → 1 ≤ size → 1 ≤ banks → size % banks ≡ 0 → banks ≤ size
banks_below size banks s b e = by (size / banks) (quotient_some size banks s b e) (div-mul_cancel banks (dvd_of_mod-eq-zero banks e))
  where
    by : (q : ℕ) → 1 ≤ q → q * banks ≡ size → banks ≤ size
    by zero o e = absurd (none o)
      where
        none : 1 ≤ 0 → ⊥
        none e = omega (arith, e)
    by (suc q) o e = let x : suc q * banks ≡ banks + q * banks = omega arith in omega (arith, e, x)

pub elements_some : (ds : List Dim) → AllByRecursion IsDim ds → 1 ≤ elements_of ds
elements_some [] h = omega arith
elements_some (d ∷ ds) h = one-le-mul h.0.size (elements_some ds h.1)

pub banks_some : (ds : List Dim) → AllByRecursion IsDim ds → 1 ≤ banks_of ds
banks_some [] h = omega arith
banks_some (d ∷ ds) h = one-le-mul h.0.banks (banks_some ds h.1)

pub rows_some : (ds : List Dim) → AllByRecursion IsDim ds → 1 ≤ rows_of ds
rows_some [] h = omega arith
rows_some (d ∷ ds) h = one-le-mul (quotient_some d.size d.banks h.0.size h.0.banks h.0.divides) (rows_some ds h.1)

pub banks_fit : (ds : List Dim) → AllByRecursion IsDim ds → banks_of ds ≤ elements_of ds
banks_fit [] h = omega arith
banks_fit (d ∷ ds) h = mul-le-mul (banks_below d.size d.banks h.0.size h.0.banks h.0.divides) (banks_fit ds h.1)

pub rows_fit : (ds : List Dim) → AllByRecursion IsDim ds → rows_of ds ≤ elements_of ds
rows_fit [] h = omega arith
rows_fit (d ∷ ds) h = mul-le-mul (div-le_self d.size d.banks) (rows_fit ds h.1)

pub few_fits : (n : ℕ) → n ≤ most_elements → n < 2 ^ 64
few_fits n h = omega (arith, h)

pub quotient_below : (i size banks : ℕ) → i < size → 1 ≤ banks → size % banks ≡ 0 → i / banks < size / banks
quotient_below i size banks l b e = div_below i banks (size / banks) (some banks b) (subst (λ (n : ℕ). i < n) (sym (div-mul_cancel banks (dvd_of_mod-eq-zero banks e))) l)
  where
    some : (n : ℕ) → 1 ≤ n → 0 < n
    some n e = omega (arith, e)

laid : (a n b h w : ℕ) → n ≡ w → a < h → b < w → a * n + b < h * w
laid a n b h w e l k = subst (λ (x : ℕ). a * x + b < h * w) (sym e) (subst (λ (x : ℕ). a * w + b < x) (mul_comm w h) (mul-add-lt a w b h l k))

under : (a b c : ℕ) → a < b → b ≤ c → a ≤ c
under a b c e f = omega (arith, e, f)

module _ (ds : List Dim) (d : Dim) (there : 1 ≤ length ds) (h : AreDims ds) where
  abbrev first : Dim
  first = slice_index_or ds 0 d

  taken : AreDims (first ∷ behind ds)
  taken = subst AreDims (first_and_behind ds d there) h

  pub first_dim : IsDim first
  first_dim = taken.dims.0

  abbrev all : List Dim
  all = first ∷ behind ds

  pub behind_dims : AreDims (behind ds)
  behind_dims = record { dims = taken.dims.1; few = less first.size (elements_of (behind ds)) first_dim.size taken.few }
    where
      less : (a b : ℕ) → 1 ≤ a → a * b ≤ most_elements → b ≤ most_elements
      less zero b o e = absurd (none o)
        where
          none : 1 ≤ 0 → ⊥
          none e = omega (arith, e)
      less (suc a) b o e = let x : suc a * b ≡ b + a * b = omega arith in omega (arith, e, x)

  pub banks_word : (n : ℕ) → n ≡ banks_of (behind ds) → first.banks * n < 2 ^ 64
  banks_word n e = few_fits _ (chain _ _ _ (ap (λ k. first.banks * k) e) (banks_fit all taken.dims) taken.few)
    where
      chain : (a b : ℕ) (c : ℕ) → a ≡ b → b ≤ c → c ≤ most_elements → a ≤ most_elements
      chain a b c e f g = omega (arith, e, f, g)

  pub rows_word : (n : ℕ) → n ≡ rows_of (behind ds) → (first.size / first.banks) * n < 2 ^ 64
  rows_word n e = few_fits _ (chain _ _ _ (ap (λ k. (first.size / first.banks) * k) e) (rows_fit all taken.dims) taken.few)
    where
      chain : (a b : ℕ) (c : ℕ) → a ≡ b → b ≤ c → c ≤ most_elements → a ≤ most_elements
      chain a b c e f g = omega (arith, e, f, g)

  abbrev below_all : Type 0
  below_all = (n : ℕ) → n ≤ elements_of all → n < 2 ^ 64

  word : below_all
  word n e = let f = taken.few in few_fits n (chain n _ e f)
    where
      chain : (n k : ℕ) → n ≤ k → k ≤ most_elements → n ≤ most_elements
      chain n k e f = omega (arith, e, f)

  -- an element that lies within the dimensions behind the first
  module _ (i : ℕ) (within : i < first.size) where
    bank_below : i % first.banks < first.banks
    bank_below = mod-lt i (some first_dim.banks)
      where
        some : {n : ℕ} → 1 ≤ n → 0 < n
        some e = omega (arith, e)

    row_below : i / first.banks < first.size / first.banks
    row_below = quotient_below i first.size first.banks within first_dim.banks first_dim.divides

    pub bank_all : (n b : ℕ) → n ≡ banks_of (behind ds) → b < banks_of (behind ds) → (i % first.banks) * n + b < banks_of all
    bank_all n b e l = laid (i % first.banks) n b first.banks (banks_of (behind ds)) e bank_below l

    pub row_all : (n b : ℕ) → n ≡ rows_of (behind ds) → b < rows_of (behind ds) → (i / first.banks) * n + b < rows_of all
    row_all n b e l = laid (i / first.banks) n b (first.size / first.banks) (rows_of (behind ds)) e row_below l

    pub position_all : (n b : ℕ) → n ≡ elements_of (behind ds) → b < elements_of (behind ds) → i * n + b < elements_of all
    position_all n b e l = laid i n b first.size (elements_of (behind ds)) e within l

    pub bank_word : (n b : ℕ) → n ≡ banks_of (behind ds) → b < banks_of (behind ds) → (i % first.banks) * n + b < 2 ^ 64
    bank_word n b e l = word _ (under _ _ _ (bank_all n b e l) (banks_fit all taken.dims))

    pub row_word : (n b : ℕ) → n ≡ rows_of (behind ds) → b < rows_of (behind ds) → (i / first.banks) * n + b < 2 ^ 64
    row_word n b e l = word _ (under _ _ _ (row_all n b e l) (rows_fit all taken.dims))

    pub position_word : (n b : ℕ) → n ≡ elements_of (behind ds) → b < elements_of (behind ds) → i * n + b < 2 ^ 64
    position_word n b e l = word _ (before _ _ (position_all n b e l))
      where
        before : (a b : ℕ) → a < b → a ≤ b
        before a b e = omega (arith, e)

  pub all_banks_are : banks_of all ≡ banks_of ds
  all_banks_are = ap banks_of (sym (first_and_behind ds d there))

  pub all_rows_are : rows_of all ≡ rows_of ds
  all_rows_are = ap rows_of (sym (first_and_behind ds d there))

  pub all_elements_are : elements_of all ≡ elements_of ds
  all_elements_are = ap elements_of (sym (first_and_behind ds d there))

  pub some_element : 0 < elements_of (behind ds)
  some_element = more (elements_of (behind ds)) (elements_some (behind ds) behind_dims.dims)
    where
      more : (n : ℕ) → 1 ≤ n → 0 < n
      more n e = omega (arith, e)

  -- the index that a row and a bank make
  module _ (row bank rows banks : ℕ) (is_rows : rows ≡ rows_of (behind ds)) (is_banks : banks ≡ banks_of (behind ds)) (row_in : row < rows_of ds) (bank_in : bank < banks_of ds) where
    row_part : row / rows < first.size / first.banks
    row_part = div_below row rows (first.size / first.banks) (some rows _ is_rows (rows_some (behind ds) behind_dims.dims))
        (subst (λ (n : ℕ). row < (first.size / first.banks) * n) (sym is_rows) (subst (λ (n : ℕ). row < n) (sym all_rows_are) row_in))
      where
        some : (n k : ℕ) → n ≡ k → 1 ≤ k → 0 < n
        some n k e f = omega (arith, e, f)

    bank_part : bank / banks < first.banks
    bank_part = div_below bank banks first.banks (some banks _ is_banks (banks_some (behind ds) behind_dims.dims))
        (subst (λ (n : ℕ). bank < first.banks * n) (sym is_banks) (subst (λ (n : ℕ). bank < n) (sym all_banks_are) bank_in))
      where
        some : (n k : ℕ) → n ≡ k → 1 ≤ k → 0 < n
        some n k e f = omega (arith, e, f)

    pub index_in : (row / rows) * first.banks + bank / banks < first.size
    index_in = subst (λ (n : ℕ). (row / rows) * first.banks + bank / banks < n)
        (mul_comm first.banks (first.size / first.banks) ∙ div-mul_cancel first.banks (dvd_of_mod-eq-zero first.banks first_dim.divides))
        (mul-add-lt (row / rows) first.banks (bank / banks) (first.size / first.banks) row_part bank_part)

    pub index_word : (row / rows) * first.banks + bank / banks < 2 ^ 64
    index_word = word _ (chain _ first.size (elements_of (behind ds)) index_in (elements_some (behind ds) behind_dims.dims))
      where
        chain : (n a b : ℕ) → n < a → 1 ≤ b → n ≤ a * b
        chain n a zero e f = absurd (none f)
          where
            none : 1 ≤ 0 → ⊥
            none e = omega (arith, e)
        chain n a (suc b) e f = let x : a * suc b ≡ a + a * b = omega arith in omega (arith, e, x)

pub no_more : (a b : ℕ) → a < 2 ^ 64 → b ≤ a → b < 2 ^ 64
no_more a b e f = omega (arith, e, f)

pub first_part : (a b : ℕ) → a ≤ a + b
first_part a b = omega arith
