-- Views whose indices are moved: suffixes by multiples of their factors, shifts by the offsets themselves.
use Rattle.std.proofs.Common.{◌≡◌, ℕ, zero, suc, ◌≤◌, true, if◌then◌else◌, List, [], ◌∷◌, length, replicate, Some, None, refl, sym, ap, subst, ◌∙◌, arith}
use Rattle.std.specs.Prelude.{ℤ, pos, negsuc, neg_ℤ, ◌*ℤ◌}
use Rattle.std.specs.List.{AllByRecursion}
use Rattle.std.proofs.lemmas.List.{length-replicate}
use Rattle.std.proofs.Math.IntN.{pos-*ℤ-pos, pos-*ℤ-negsuc}
use Rattle.std.proofs.Math.Nat.{one-mul}
use Rattle.dh_tree.specs.declared.tables.Dim.{Dim}
use Rattle.dh_tree.specs.declared.viewing.ViewMap.{ViewMap}
use Rattle.dh_tree.specs.declared.viewing.ViewSort.{ViewSort}
use Rattle.dh_tree.specs.declared.viewing.ViewSort.TheVariants.{Shrink, Split, Suffix, Shift}
use Rattle.dh_viewing.specs.Moved.{Moves, moved_numbers}
use Rattle.dh_tree.specs.ViewElements.{is_inside, inside_of, element_through, parent_index, first_banks, sums, multiples}
use Rattle.dh_tree.specs.ViewShapes.{IsShapeOf, AreDimsOf, IsViewMap}
use Rattle.dh_viewing.proofs.MovedNumbers.{moved_is}
use Rattle.dh_viewing.proofs.ViewBanks.{same_inside}

-- what is known of a view that moves, with the factors by which its offsets are multiplied
pub record IsMoved (s : ViewSort) (vs ps : List Dim) (by factors : List ℕ) : Type 0 where
  pub same : vs ≡ ps
  pub long : length factors ≡ length ps
  pub some : AllByRecursion (λ k. 1 ≤ k) factors
  pub index : (es is : List ℤ) → length es ≡ length ps → parent_index s (first_banks ps) by es is ≡ sums (multiples factors es) is

suffix_dims : (vs ps : List Dim) (ks : List ℕ) → AreDimsOf Suffix vs ps ks → (vs ≡ ps) × ((length ks ≡ length ps) × AllByRecursion (λ k. 1 ≤ k) ks)
suffix_dims [] [] [] h = (refl, (refl, tt))
suffix_dims [] [] (k ∷ ks) h = absurd h
suffix_dims [] (p ∷ ps) ks h = absurd h
suffix_dims (v ∷ vs) [] ks h = absurd h
suffix_dims (v ∷ vs) (p ∷ ps) [] h = absurd h
suffix_dims (v ∷ vs) (p ∷ ps) (k ∷ ks) h =
    let rest = suffix_dims vs ps ks h.1 in
    (ap (λ (d : Dim). d ∷ vs) h.0.0 ∙ ap (λ (l : List Dim). p ∷ l) rest.0, (ap suc rest.1.0, (h.0.1.0, rest.1.1)))

ones : (n : ℕ) → AllByRecursion (λ k. 1 ≤ k) (replicate n 1)
ones zero = tt
ones (suc n) = (omega arith, ones n)

one_times : (x : ℤ) → pos 1 *ℤ x ≡ x
one_times (pos n) = pos-*ℤ-pos 1 n ∙ ap pos (one-mul n)
one_times (negsuc n) = pos-*ℤ-negsuc 1 n ∙ ap (λ m. neg_ℤ (pos m)) (one-mul (suc n))

once : (n : ℕ) (es : List ℤ) → length es ≡ n → multiples (replicate n 1) es ≡ es
once zero [] e = refl
once zero (x ∷ es) e = absurd (omega (arith, e))
once (suc n) [] e = absurd (omega (arith, e))
once (suc n) (x ∷ es) e =
    ap (λ (y : ℤ). y ∷ multiples (replicate n 1) es) (one_times x) ∙ ap (λ (l : List ℤ). x ∷ l) (once n es (less _ _ e))
  where
    less : (m k : ℕ) → suc m ≡ suc k → m ≡ k
    less m k e = omega (arith, e)

moved_by : (s : ViewSort) (vs ps : List Dim) (by factors : List ℕ) → IsShapeOf s vs ps by → Moves s by factors (length ps) → IsMoved s vs ps by factors
moved_by Shrink vs ps by factors h m = absurd m
moved_by Split vs ps by factors h m = absurd m
moved_by Suffix vs ps by factors h m =
    let d = suffix_dims vs ps by h in
    record {
      same = d.0;
      long = ap (λ (l : List ℕ). length l) m ∙ d.1.0;
      some = subst (λ (l : List ℕ). AllByRecursion (λ k. 1 ≤ k) l) (sym m) d.1.1;
      index = λ es is e. ap (λ (l : List ℕ). sums (multiples l es) is) (sym m);
    }
moved_by Shift vs ps by factors h m =
    record {
      same = h.0;
      long = ap (λ (l : List ℕ). length l) m ∙ length-replicate (length ps) 1;
      some = subst (λ (l : List ℕ). AllByRecursion (λ k. 1 ≤ k) l) (sym m) (ones (length ps));
      index = λ es is e. sym (ap (λ (l : List ℕ). sums (multiples l es) is) m ∙ ap (λ (l : List ℤ). sums l is) (once (length ps) es e));
    }

pub moved_view : (v : ViewMap) (factors : List ℕ) → IsViewMap v → Moves v.sort v.by factors (length v.parent.dims) → IsMoved v.sort v.shape.dims v.parent.dims v.by factors
moved_view v factors m moves = moved_by v.sort v.shape.dims v.parent.dims v.by factors m.shape moves

pub moved_element : (v : ViewMap) (factors : List ℕ) (es is : List ℤ) → IsViewMap v → Moves v.sort v.by factors (length v.parent.dims) → length es ≡ length v.parent.dims → length is ≡ length v.shape.dims
    → moved_numbers v.parent.dims factors es is ≡ element_through v es is
moved_element v factors es is m moves e_long i_long =
    let g = moved_view v factors m moves in
    let i_parent = i_long ∙ ap (λ (l : List Dim). length l) g.same in
    moved_is v.parent.dims factors es is g.long e_long i_parent
    ∙ (ap (λ (l : List ℤ). if is_inside v.parent.dims is then inside_of v.parent.dims l else None) (sym (g.index es is e_long))
    ∙ ap (λ (l : List Dim). if is_inside l is then inside_of v.parent.dims (parent_index v.sort (first_banks v.parent.dims) v.by es is) else None) (sym g.same))

-- an index of a shrunk view names itself
shrunk : (s : ViewSort) (vs ps : List Dim) (by : List ℕ) (es is : List ℤ) → s ≡ Shrink → IsShapeOf s vs ps by → is_inside vs is ≡ true
    → Some is ≡ (if is_inside vs is then inside_of ps (parent_index s (first_banks ps) by es is) else None)
shrunk Shrink vs ps by es is e h inside =
    let there = sym (same_inside vs ps by is h) ∙ inside in
    sym (ap (λ b. if b then (if is_inside ps is then Some is else None) else None) inside ∙ ap (λ b. if b then Some is else None) there)
shrunk Split vs ps by es is e h inside = cc
shrunk Suffix vs ps by es is e h inside = cc
shrunk Shift vs ps by es is e h inside = cc

pub shrunk_element : (v : ViewMap) (es is : List ℤ) → IsViewMap v → v.sort ≡ Shrink → is_inside v.shape.dims is ≡ true → Some is ≡ element_through v es is
shrunk_element v es is m sort inside = shrunk v.sort v.shape.dims v.parent.dims v.by es is sort m.shape inside

shrunk_long : (s : ViewSort) (vs ps : List Dim) (ks : List ℕ) → s ≡ Shrink → IsShapeOf s vs ps ks → length vs ≡ length ps
shrunk_long Shrink vs ps ks e h = all vs ps ks h
  where
    all : (vs ps : List Dim) (ks : List ℕ) → AreDimsOf Shrink vs ps ks → length vs ≡ length ps
    all [] [] ks h = refl
    all [] (p ∷ ps) ks h = absurd h
    all (v ∷ vs) [] ks h = absurd h
    all (v ∷ vs) (p ∷ ps) [] h = absurd h
    all (v ∷ vs) (p ∷ ps) (k ∷ ks) h = ap suc (all vs ps ks h.1)
shrunk_long Split vs ps ks e h = cc
shrunk_long Suffix vs ps ks e h = cc
shrunk_long Shift vs ps ks e h = cc

pub view_long : (v : ViewMap) → IsViewMap v → v.sort ≡ Shrink → length v.shape.dims ≡ length v.parent.dims
view_long v m sort = shrunk_long v.sort v.shape.dims v.parent.dims v.by sort m.shape
