-- A view whose factors and brackets keep the rule, of what has a shape that keeps the rules and limits, has such a
-- shape, too: that of its sort.
use Rattle.std.proofs.Common.{◌≡◌, ℕ, zero, suc, ◌*◌, ◌/◌, ◌%◌, ◌≤◌, ◌==◌, ◌&&◌, not, Bool, true, false, List, [], ◌∷◌, ◌++◌, length, map, refl, sym, ap, subst, ◌∙◌, arith}
use Rattle.std.specs.List.{AllByRecursion}
use Rattle.std.proofs.lemmas.Bool.{eqb-true}
use Rattle.std.proofs.lemmas.List.{length-map}
use Rattle.std.proofs.lemmas.Nat.{div-add-mod'}
use Rattle.std.proofs.Math.Nat.{mul-le-mul_left, mul-le-mul_right, mul-one, mul_comm, mul_assoc, mul-div_cancel, mul-mod_left, mod_self}
use Rattle.dh_base.specs.declared.places.Place.{Place}
use Rattle.dh_base.specs.declared.rules.Rule.TheVariants.{ViewFactor}
use Rattle.dh_tree.specs.declared.tables.Dim.{Dim}
use Rattle.dh_tree.specs.declared.tables.Shape.{Shape}
use Rattle.dh_tree.specs.Elements.{banks_of}
use Rattle.dh_tree.specs.Indices.{divides}
use Rattle.dh_tree.specs.Kinds.{when}
use Rattle.dh_tree.specs.LeastBreach.{breach}
use Rattle.dh_tree.specs.PlainTrees.{ViewPlan, shrinks, splits, suffixes, shifts}
use Rattle.dh_tree.specs.Shapes.{IsDim, IsShape}
use Rattle.dh_tree.specs.declared.viewing.ViewSort.TheVariants.{Shrink, Suffix}
use Rattle.dh_tree.specs.ViewFactors.{is_multiple, factor_keeps, factor_broken, factors_breaches, brackets_broken, brackets_fit, multiplies, places_of, plan_breaches}
use Rattle.dh_tree.specs.Views.{shrunk_dims, split_dims, dims_of, sort_of, factors_of, map_of}
use Rattle.dh_tree.specs.ViewShapes.{AreDimsOf, AreSplitOf, IsShapeOf, IsViewMap}

-- what a list that is empty tells
pub first_none : {A : Type 0} (xs ys : List A) → xs ++ ys ≡ [] → xs ≡ []
first_none [] ys e = refl
first_none (x ∷ xs) ys e = cc

pub second_none : {A : Type 0} (xs ys : List A) → xs ++ ys ≡ [] → ys ≡ []
second_none [] ys e = e
second_none (x ∷ xs) ys e = cc

kept : (b : Bool) (p : Place) → when (not b) (breach ViewFactor p ∷ []) ≡ [] → b ≡ true
kept true p e = refl
kept false p e = cc

-- factors

-- a factor divides a number of banks
pub record Divides (k m : ℕ) : Type 0 where
  pub some : 1 ≤ k
  pub part : m / k * k ≡ m

pub left_of : (a b : Bool) → (a && b) ≡ true → a ≡ true
left_of true b e = refl
left_of false b e = cc

pub right_of : (a b : Bool) → (a && b) ≡ true → b ≡ true
right_of true b e = e
right_of false b e = cc

not_zero : (k : ℕ) → not (k == 0) ≡ true → 1 ≤ k
not_zero zero e = cc
not_zero (suc k) e = omega arith

divides_told : (k m : ℕ) → divides k m ≡ true → Divides k m
divides_told k m e =
    let r : m % k ≡ 0 = eqb-true (m % k) 0 (right_of (not (k == 0)) (m % k == 0) e) in
    let d = div-add-mod' m k in
    record { some = not_zero k (left_of (not (k == 0)) (m % k == 0) e); part = omega (arith, r, d) }

multiple_told : (k m : ℕ) → is_multiple k m ≡ true → (1 ≤ k) × (k ≡ k / m * m)
multiple_told k m e =
    let r : k % m ≡ 0 = eqb-true (k % m) 0 (right_of (not (k == 0)) (k % m == 0) e) in
    let d = div-add-mod' k m in
    (not_zero k (left_of (not (k == 0)) (k % m == 0) e), omega (arith, r, d))

-- a part of a number that is at least 1 is so, too
some_part : (n k m : ℕ) → n * k ≡ m → 1 ≤ m → 1 ≤ n
some_part zero k m e l = absurd (omega (arith, e, l))
some_part (suc n) k m e l = omega arith

-- what a multiple of a number is a multiple of
whole_multiple : (size banks part k : ℕ) → part * k ≡ banks → 1 ≤ part → size % banks ≡ 0 → size % part ≡ 0
whole_multiple size banks part k e l r =
    let d = div-add-mod' size banks in
    let s : size ≡ size / banks * k * part = size_is (size / banks) (omega (arith, d, r)) in
    ap (λ n. n % part) s ∙ mul-mod_left (size / banks * k) part
  where
    size_is : (q : ℕ) → size ≡ q * banks → size ≡ q * k * part
    size_is q f = f ∙ (ap (λ n. q * n) (sym e ∙ mul_comm part k) ∙ sym (mul_assoc q k part))

-- Shrink.

module _ (d : Dim) (k : ℕ) (h : IsDim d) (f : Divides k d.banks) where
  pub shrunk_some : 1 ≤ d.banks / k
  shrunk_some = some_part (d.banks / k) k d.banks f.part h.banks

  pub shrunk_dim_kept : IsDim (record { size = d.size; banks = d.banks / k })
  shrunk_dim_kept = record { size = h.size; banks = shrunk_some; divides = whole_multiple d.size d.banks (d.banks / k) k f.part shrunk_some h.divides }

fewer : (a b c e : ℕ) → a ≤ b → c ≤ e → a * c ≤ b * e
fewer a b c e l m = let x = mul-le-mul_right c l in let y = mul-le-mul_left {m = c} {n = e} b m in omega (arith, x, y)

part_fewer : (n k m : ℕ) → n * k ≡ m → 1 ≤ k → n ≤ m
part_fewer n k m e l = let up = mul-le-mul_left {m = 1} {n = k} n l in omega (arith, e, up, mul-one n)

pub record Shrunk (vs ps : List Dim) (ks : List ℕ) : Type 0 where
  pub are : AreDimsOf Shrink vs ps ks
  pub dims : AllByRecursion IsDim vs
  pub long : length vs ≡ length ps
  pub few : banks_of vs ≤ banks_of ps

less : (m n : ℕ) → suc m ≡ suc n → m ≡ n
less m n e = omega (arith, e)

-- the factors keep the rule, wherever they stand
abbrev pub AllKeep : (multiplies : Bool) → (factors : List ℕ) → List Dim → Type 0
AllKeep m (k ∷ ks) (d ∷ ds) = (factor_keeps m k d.banks ≡ true) × AllKeep m ks ds
AllKeep m [] ds = Unit {0}
AllKeep m (k ∷ ks) [] = Unit {0}

all_keep : (m : Bool) (parent : Place) (ks : List ℕ) (at : List Place) (ds : List Dim) → factors_breaches m parent ks at ds ≡ [] → AllKeep m ks ds
all_keep m parent [] at ds e = tt
all_keep m parent (k ∷ ks) at [] e = tt
all_keep m parent (k ∷ ks) [] (d ∷ ds) e = (
  kept (factor_keeps m k d.banks) parent (first_none (factor_broken (factor_keeps m k d.banks) parent) (factors_breaches m parent ks [] ds) e),
  all_keep m parent ks [] ds (second_none (factor_broken (factor_keeps m k d.banks) parent) (factors_breaches m parent ks [] ds) e),
)
all_keep m parent (k ∷ ks) (p ∷ at) (d ∷ ds) e = (
  kept (factor_keeps m k d.banks) p (first_none (factor_broken (factor_keeps m k d.banks) p) (factors_breaches m parent ks at ds) e),
  all_keep m parent ks at ds (second_none (factor_broken (factor_keeps m k d.banks) p) (factors_breaches m parent ks at ds) e),
)

shrunk_all : (ks : List ℕ) (ps : List Dim) → length ks ≡ length ps → AllByRecursion IsDim ps → AllKeep false ks ps → Shrunk (shrunk_dims ks ps) ps ks
shrunk_all [] [] a h e = record { are = tt; dims = tt; long = refl; few = omega arith }
shrunk_all [] (d ∷ ds) a h e = absurd (omega (arith, a))
shrunk_all (k ∷ ks) [] a h e = absurd (omega (arith, a))
shrunk_all (k ∷ ks) (d ∷ ds) a h e =
    let one = divides_told k d.banks e.0 in
    let rest = shrunk_all ks ds (less _ _ a) h.1 e.1 in
    record {
      are = ((refl, (one.part, one.some)), rest.are);
      dims = (shrunk_dim_kept d k h.0 one, rest.dims);
      long = ap suc rest.long;
      few = fewer (d.banks / k) d.banks (banks_of (shrunk_dims ks ds)) (banks_of ds) (part_fewer (d.banks / k) k d.banks one.part one.some) rest.few;
    }

-- Suffix.

suffix_all : (ks : List ℕ) (ps : List Dim) → length ks ≡ length ps → AllKeep true ks ps → AreDimsOf Suffix ps ps ks
suffix_all [] [] a e = tt
suffix_all [] (d ∷ ds) a e = absurd (omega (arith, a))
suffix_all (k ∷ ks) [] a e = absurd (omega (arith, a))
suffix_all (k ∷ ks) (d ∷ ds) a e =
    let one = multiple_told k d.banks e.0 in
    ((refl, (one.0, (k / d.banks, one.1))), suffix_all ks ds (less _ _ a) e.1)

-- Split.

module _ (d : Dim) (k : ℕ) (h : IsDim d) (f : Divides k d.banks) where
  -- the factor divides the elements, too
  split_size : d.size / k * k ≡ d.size
  split_size =
      let whole : d.size % k ≡ 0 = whole_multiple d.size d.banks k (d.banks / k) (mul_comm k (d.banks / k) ∙ f.part) f.some h.divides in
      let r = div-add-mod' d.size k in
      omega (arith, whole, r)

  split_own : IsDim (record { size = d.size / k; banks = d.banks / k })
  split_own = record {
    size = some_part (d.size / k) k d.size split_size h.size;
    banks = shrunk_some d k h f;
    divides = part_divides (d.size / d.banks) (let r = div-add-mod' d.size d.banks in let w = h.divides in omega (arith, r, w));
  }
    where
      part_divides : (q : ℕ) → q * d.banks ≡ d.size → d.size / k % (d.banks / k) ≡ 0
      part_divides q e =
          let s : d.size ≡ q * (d.banks / k) * k = sym e ∙ (ap (λ n. q * n) (sym f.part) ∙ sym (mul_assoc q (d.banks / k) k)) in
          let t : d.size / k ≡ q * (d.banks / k) = ap (λ n. n / k) s ∙ mul-div_cancel (q * (d.banks / k)) f.some in
          ap (λ n. n % (d.banks / k)) t ∙ mul-mod_left q (d.banks / k)

  split_copies : IsDim (record { size = k; banks = k })
  split_copies = record { size = f.some; banks = f.some; divides = mod_self k }

  split_few : k * ((d.banks / k) * 1) ≡ d.banks * 1
  split_few = ap (λ n. k * n) (mul-one (d.banks / k)) ∙ (mul_comm k (d.banks / k) ∙ (f.part ∙ sym (mul-one d.banks)))

-- A view.

one_of : (m n : ℕ) → (m == n) ≡ true → m ≡ n
one_of m n e = eqb-true m n e

module _ (parent : Shape) (s : IsShape parent) where
  shape_with : (ds : List Dim) → 1 ≤ length ds → length ds ≤ 6 → AllByRecursion IsDim ds → banks_of ds ≤ 64 → IsShape (record { kind = parent.kind; ports = parent.ports; dims = ds })
  shape_with ds least most dims few = record { integer = s.integer; least_ports = s.least_ports; most = s.most; least_dims = least; few_dims = most; dims = dims; few_banks = few }

  kept_shrink : (ks : List ℕ) (at : List Place) → length ks ≡ length parent.dims → AllKeep false ks parent.dims → IsViewMap (map_of (shrinks ks at) parent)
  kept_shrink ks at a e =
      let r = shrunk_all ks parent.dims a s.dims e in
      let l = r.long in let f = r.few in let m = s.least_dims in let n = s.few_dims in let g = s.few_banks in
      record { kind = refl; ports = refl; shape = r.are; parent = s; own = shape_with (shrunk_dims ks parent.dims) (omega (arith, l, m)) (omega (arith, l, n)) r.dims (omega (arith, f, g)) }

  kept_same : (form : ViewPlan) → dims_of form parent.dims ≡ parent.dims → IsShapeOf (sort_of form) parent.dims parent.dims (factors_of form) → IsViewMap (map_of form parent)
  kept_same form same h =
      record {
        kind = refl;
        ports = refl;
        shape = subst (λ (l : List Dim). IsShapeOf (sort_of form) l parent.dims (factors_of form)) (sym same) h;
        parent = s;
        own = subst (λ (l : List Dim). IsShape (record { kind = parent.kind; ports = parent.ports; dims = l })) (sym same) (shape_with parent.dims s.least_dims s.few_dims s.dims s.few_banks);
      }

kept_split : (parent : Shape) (s : IsShape parent) (ks : List ℕ) (at : List Place) (ds : List Dim) → parent.dims ≡ ds → (length ks == 1) ≡ true → (length ds == 1) ≡ true → AllKeep false ks ds
    → IsViewMap (map_of (splits ks at) parent)
kept_split parent s [] at ds is a b e = absurd (let l = one_of 0 1 a in omega (arith, l))
kept_split parent s (k ∷ (x ∷ ks)) at ds is a b e = absurd (let l = one_of (suc (suc (length ks))) 1 a in omega (arith, l))
kept_split parent s (k ∷ []) at [] is a b e = absurd (let l = one_of 0 1 b in omega (arith, l))
kept_split parent s (k ∷ []) at (d ∷ (x ∷ ds)) is a b e = absurd (let l = one_of (suc (suc (length ds))) 1 b in omega (arith, l))
kept_split parent s (k ∷ []) at (d ∷ []) is a b e =
    let h : IsDim d = (subst (λ (l : List Dim). AllByRecursion IsDim l) is s.dims).0 in
    let f = divides_told k d.banks e.0 in
    let g : banks_of parent.dims ≡ d.banks * 1 = ap (λ l. banks_of l) is in
    let few = split_few d k h f in
    let most = s.few_banks in
    let own : IsShape (record { kind = parent.kind; ports = parent.ports; dims = record { size = k; banks = k } ∷ (record { size = d.size / k; banks = d.banks / k } ∷ []) }) =
    shape_with parent s (record { size = k; banks = k } ∷ (record { size = d.size / k; banks = d.banks / k } ∷ [])) (omega arith) (omega arith) (split_copies d k h f, (split_own d k h f, tt)) (omega (arith, few, g, most))
    in
    let shape : AreSplitOf (record { size = k; banks = k } ∷ (record { size = d.size / k; banks = d.banks / k } ∷ [])) (d ∷ []) (k ∷ []) =
    ((refl, refl), (split_size d k h f, (f.part, f.some)))
    in
    record {
      kind = refl;
      ports = refl;
      shape = subst (λ (l : List Dim). AreSplitOf (split_dims (k ∷ []) l) l (k ∷ [])) (sym is) shape;
      parent = s;
      own = subst (λ (l : List Dim). IsShape (record { kind = parent.kind; ports = parent.ports; dims = split_dims (k ∷ []) l })) (sym is) own;
    }

parts_of : (form : ViewPlan) (dims : List Dim) (at : Place) → plan_breaches dims at form ≡ [] → (brackets_fit form (length dims) ≡ true) × AllKeep (multiplies form) (factors_of form) dims
parts_of form dims at e =
    let first = brackets_broken (brackets_fit form (length dims)) at in
    let rest = factors_breaches (multiplies form) at (factors_of form) (places_of form) dims in
    (kept (brackets_fit form (length dims)) at (first_none first rest e), all_keep (multiplies form) at (factors_of form) (places_of form) dims (second_none first rest e))

pub kept_view : (form : ViewPlan) (parent : Shape) (at : Place) → IsShape parent → plan_breaches parent.dims at form ≡ [] → IsViewMap (map_of form parent)
kept_view (shrinks by by_place) parent at s e =
    let h = parts_of (shrinks by by_place) parent.dims at e in kept_shrink parent s by by_place (one_of (length by) (length parent.dims) h.0) h.1
kept_view (splits by by_place) parent at s e =
    let h = parts_of (splits by by_place) parent.dims at e in
    kept_split parent s by by_place parent.dims refl (left_of (length by == 1) (length parent.dims == 1) h.0) (right_of (length by == 1) (length parent.dims == 1) h.0) h.1
kept_view (suffixes by by_place) parent at s e =
    let h = parts_of (suffixes by by_place) parent.dims at e in
    let long : length (map (λ s. s.factor) by) ≡ length parent.dims = length-map by (λ s. s.factor) ∙ one_of (length by) (length parent.dims) h.0 in
    kept_same parent s (suffixes by by_place) refl (suffix_all (map (λ s. s.factor) by) parent.dims long h.1)
kept_view (shifts by) parent at s e = kept_same parent s (shifts by) refl (refl, refl)
