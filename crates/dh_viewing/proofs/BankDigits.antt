-- Each bank has an element: the one whose index in each dimension is that dimension's part of the bank's number.
use Rattle.std.proofs.Common.{◌≡◌, ℕ, zero, suc, ◌+◌, ◌*◌, ◌/◌, ◌%◌, ◌<◌, ◌≤◌, ◌&&◌, Bool, true, false, nat_lt, List, [], ◌∷◌, length, map, refl, sym, ap, subst, ◌∙◌, arith}
use Rattle.std.specs.Prelude.{ℤ, pos, negsuc, unsigned_abs}
use Rattle.std.specs.List.{AllByRecursion}
use Rattle.std.proofs.lemmas.Bool.Decides.{nat_tests}
use Rattle.std.proofs.lemmas.Int.{ints}
use Rattle.std.proofs.lemmas.Nat.{div-add-mod'}
use Rattle.std.proofs.Math.Nat.{mod-eq_of_lt}
use Rattle.dh_tree.proofs.BankElements.{row_below, column_below, bank_below, whole}
use Rattle.dh_tree.specs.declared.tables.Dim.{Dim}
use Rattle.dh_tree.specs.Elements.{banks_of, is_within}
use Rattle.dh_tree.specs.Shapes.{IsDim}
use Rattle.dh_viewing.specs.ReachedBanks.{bank_at}
use Rattle.dh_tree.specs.ViewElements.{is_index, is_inside}

-- the parts of a bank's number
abbrev pub digits : List Dim → ℕ → List ℕ
digits [] bank = []
digits (d ∷ ds) bank = bank / banks_of ds ∷ digits ds (bank % banks_of ds)

-- as whole numbers
abbrev pub indices_of : List Dim → ℕ → List ℤ
indices_of ds bank = map pos (digits ds bank)

pub index_is : (size n : ℕ) → n < size → is_index size (pos n) ≡ true
index_is size n h = grind (arith, ints, nat_tests)

pub indices_long : (ds : List Dim) (bank : ℕ) → length (indices_of ds bank) ≡ length ds
indices_long [] bank = refl
indices_long (d ∷ ds) bank = ap suc (indices_long ds (bank % banks_of ds))

-- there are no more banks than elements
pub banks_fit : (d : Dim) → IsDim d → d.banks ≤ d.size
banks_fit d h = by (d.size / d.banks) (whole d.size d.banks h.divides)
  where
    by : (q : ℕ) → q * d.banks ≡ d.size → d.banks ≤ d.size
    by zero e = let s = h.size in absurd (omega (arith, e, s))
    by (suc q) e = omega (arith, e)

pub both : (a b : Bool) → a ≡ true → b ≡ true → (a && b) ≡ true
both true b e f = f
both false b e f = cc

pub digits_inside : (ds : List Dim) (bank : ℕ) → AllByRecursion IsDim ds → bank < banks_of ds → is_inside ds (indices_of ds bank) ≡ true
digits_inside [] bank h l = refl
digits_inside (d ∷ ds) bank h l =
    let r = row_below bank d.banks (banks_of ds) l in
    let f = banks_fit d h.0 in
    both (is_index d.size (pos (bank / banks_of ds))) (is_inside ds (indices_of ds (bank % banks_of ds))) (index_is d.size (bank / banks_of ds) (omega (arith, r, f)))
    (digits_inside ds (bank % banks_of ds) h.1 (column_below bank d.banks (banks_of ds) l))

pub digits_bank : (ds : List Dim) (bank : ℕ) → AllByRecursion IsDim ds → bank < banks_of ds → bank_at ds (indices_of ds bank) ≡ bank
digits_bank [] bank h l = omega (arith, l)
digits_bank (d ∷ ds) bank h l =
    let r = row_below bank d.banks (banks_of ds) l in
    ap (λ n. n * banks_of ds + bank_at ds (indices_of ds (bank % banks_of ds))) (mod-eq_of_lt r)
    ∙ (ap (λ n. bank / banks_of ds * banks_of ds + n) (digits_bank ds (bank % banks_of ds) h.1 (column_below bank d.banks (banks_of ds) l)) ∙ div-add-mod' bank (banks_of ds))

-- indices that are inside, as natural numbers

pub first_of : (a b : Bool) → (a && b) ≡ true → a ≡ true
first_of true b e = refl
first_of false b e = cc

pub rest_of : (a b : Bool) → (a && b) ≡ true → b ≡ true
rest_of true b e = e
rest_of false b e = cc

-- an index is a natural number below its size
pub record Natural (size : ℕ) (z : ℤ) : Type 0 where
  pub n : ℕ
  pub is : z ≡ pos n
  pub below : n < size

pub natural_of : (size : ℕ) (z : ℤ) → is_index size z ≡ true → Natural size z
natural_of size (pos n) e = record { n = n; is = refl; below = small n size e }
  where
    small : (n size : ℕ) → is_index size (pos n) ≡ true → n < size
    small n size e = grind (arith, ints, nat_tests)
natural_of size (negsuc n) e = cc

within_size : (size : ℕ) (z : ℤ) → is_index size z ≡ true → nat_lt (unsigned_abs z) size ≡ true
within_size size z e =
    let k = natural_of size z e in
    subst (λ (y : ℤ). nat_lt (unsigned_abs y) size ≡ true) (sym k.is) (test k.n size k.below)
  where
    test : (n size : ℕ) → n < size → nat_lt n size ≡ true
    test n size l = grind (arith, nat_tests)

pub within_of : (ds : List Dim) (is : List ℤ) → is_inside ds is ≡ true → is_within ds (map unsigned_abs is) ≡ true
within_of [] [] e = refl
within_of [] (i ∷ is) e = cc
within_of (d ∷ ds) [] e = cc
within_of (d ∷ ds) (i ∷ is) e =
    both (nat_lt (unsigned_abs i) d.size) (is_within ds (map unsigned_abs is)) (within_size d.size i (first_of (is_index d.size i) (is_inside ds is) e))
    (within_of ds is (rest_of (is_index d.size i) (is_inside ds is) e))

pub bank_at_below : (ds : List Dim) (is : List ℤ) → AllByRecursion IsDim ds → is_inside ds is ≡ true → bank_at ds is < banks_of ds
bank_at_below ds is h e = bank_below ds (map unsigned_abs is) h (within_of ds is e)
