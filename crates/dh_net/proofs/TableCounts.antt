-- Counts of dimensions that stop above a limit: the product so far times that of the rest is the whole, and
-- where the product so far is above the limit the whole is, since no factor is 0.
use Rattle.std.proofs.Common.{◌≡◌, ℕ, suc, zero, ◌+◌, ◌*◌, ◌<◌, ◌≤◌, List, [], ◌∷◌, length, drop, get_or, refl, sym, ap, subst, ◌∙◌, arith}
use Rattle.std.specs.List.{AllByRecursion}
use Rattle.std.proofs.lemmas.List.{get_or_default}
use Rattle.std.proofs.Math.Nat.{one-le-mul, mul_assoc, le-mul_of_pos_right, one-mul}
use Rattle.dh_tree.specs.Shapes.{IsDim}
use Rattle.dh_tree.specs.Tables.{most_elements}
use Rattle.dh_tree.specs.declared.tables.Dim.{Dim}
use Rattle.dh_base.proofs.ListItems.{at_item}

pub record Counting (all : List Dim → ℕ) (count : ℕ) (dims rest : List Dim) : Type 0 where
  pub some : 1 ≤ count
  pub small : count ≤ most_elements
  pub left : AllByRecursion IsDim rest
  pub makes : count * all rest ≡ all dims

pub counting_starts : (all : List Dim → ℕ) (dims : List Dim) → AllByRecursion IsDim dims → Counting all 1 dims dims
counting_starts all dims h = record { some = omega arith; small = omega arith; left = h; makes = one-mul (all dims) }

module _ (all : List Dim → ℕ) (factor : Dim → ℕ) (first : (d : Dim) (ds : List Dim) → all (d ∷ ds) ≡ factor d * all ds)
    (one : (d : Dim) → IsDim d → 1 ≤ factor d) (ones : (ds : List Dim) → AllByRecursion IsDim ds → 1 ≤ all ds)
    (dims : List Dim) (i : ℕ) (default : Dim) (inside : i < length dims) where
  abbrev d : Dim
  d = get_or dims i default

  is : d ≡ get_or dims i d
  is = get_or_default dims i default d inside

  rest_dims : {count : ℕ} → Counting all count dims (drop i dims) → AllByRecursion IsDim (d ∷ drop (i + 1) dims)
  rest_dims c = subst (λ (ds : List Dim). AllByRecursion IsDim ds) (at_item dims i d inside is) c.left

  turned : {count : ℕ} → Counting all count dims (drop i dims) → (count * factor d) * all (drop (i + 1) dims) ≡ all dims
  turned {count} c =
      mul_assoc count (factor d) (all (drop (i + 1) dims))
      ∙ (ap (λ n. count * n) (sym (first d (drop (i + 1) dims)))
      ∙ (ap (λ ds. count * all ds) (sym (at_item dims i d inside is)) ∙ c.makes))

  pub counting_goes : (count next most : ℕ) → most ≤ most_elements → next ≡ count * factor d → next ≤ most → Counting all count dims (drop i dims)
      → Counting all next dims (drop (i + 1) dims)
  counting_goes count next most cap told within c =
      let rest = rest_dims c in
      record {
        some = subst (λ (n : ℕ). 1 ≤ n) (sym told) (one-le-mul c.some (one d rest.0));
        small = omega (arith, within, cap);
        left = rest.1;
        makes = ap (λ n. n * all (drop (i + 1) dims)) told ∙ turned c;
      }

  pub counting_stops : (count most : ℕ) → most < count * factor d → Counting all count dims (drop i dims) → most < all dims
  counting_stops count most above c =
      let rest = rest_dims c in
      let more = le-mul_of_pos_right {m = all (drop (i + 1) dims)} (count * factor d) (ones (drop (i + 1) dims) rest.1) in
      let whole = turned c in
      omega (arith, above, more, whole)

dropped : {A : Type 0} (k : ℕ) (xs : List A) → length xs ≤ k → drop k xs ≡ []
dropped zero [] h = refl
dropped (suc k) [] h = refl
dropped zero (x ∷ xs) h = absurd (omega (arith, h))
dropped (suc k) (x ∷ xs) h = dropped k xs (omega (arith, h))

-- at the end the count is the whole
pub counted : (all : List Dim → ℕ) (dims : List Dim) (i count : ℕ) → all [] ≡ 1 → length dims ≤ i → Counting all count dims (drop i dims) → count ≡ all dims
counted all dims i count unit past c =
    let one : all (drop i dims) ≡ 1 = ap all (dropped i dims past) ∙ unit in
    let whole = c.makes in
    let plain : count * all (drop i dims) ≡ count * 1 = ap (λ n. count * n) one in
    omega (arith, whole, plain)
