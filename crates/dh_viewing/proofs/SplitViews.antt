-- The parts of a split, and the element that its indices name.
use Rattle.std.proofs.Common.{◌≡◌, ℕ, suc, ◌/◌, ◌<◌, ◌≤◌, Bool, true, false, ◌&&◌, if◌then◌else◌, List, [], ◌∷◌, length, get_or, Option, Some, None, refl, sym, ap, subst, ◌∙◌, arith}
use Rattle.std.specs.Prelude.{ℤ, pos, unsigned_abs}
use Rattle.std.specs.List.{AllByRecursion}
use Rattle.dh_tree.specs.declared.tables.Dim.{Dim}
use Rattle.dh_tree.specs.Shapes.{IsDim}
use Rattle.dh_tree.specs.declared.viewing.ViewMap.{ViewMap}
use Rattle.dh_tree.specs.declared.viewing.ViewSort.{ViewSort}
use Rattle.dh_tree.specs.declared.viewing.ViewSort.TheVariants.{Shrink, Split, Suffix, Shift}
use Rattle.dh_viewing.specs.Moved.{number_within}
use Rattle.dh_tree.specs.ViewElements.{is_index, is_inside, inside_of, element_through, dealt_index, split_index, parent_index, first_banks}
use Rattle.dh_tree.specs.ViewShapes.{IsShapeOf, AreSplitOf, IsViewMap}
use Rattle.dh_viewing.proofs.BankDigits.{index_is, natural_of}
use Rattle.dh_viewing.proofs.ReachTold.{shared_of}
use Rattle.dh_viewing.proofs.SplitElements.{share_is, dealt_below}

pub record Parts (s : ViewSort) (vs ps : List Dim) (ks : List ℕ) : Type 0 where
  pub copies : Dim
  pub own : Dim
  pub whole : Dim
  pub factor : ℕ
  pub vs_are : vs ≡ copies ∷ (own ∷ [])
  pub ps_are : ps ≡ whole ∷ []
  pub ks_are : ks ≡ factor ∷ []
  pub are : AreSplitOf (copies ∷ own ∷ []) (whole ∷ []) (factor ∷ [])
  pub dim : IsDim own

parts : (s : ViewSort) (vs ps : List Dim) (ks : List ℕ) → s ≡ Split → IsShapeOf s vs ps ks → AllByRecursion IsDim vs → Parts s vs ps ks
parts Shrink vs ps ks e h d = cc
parts Suffix vs ps ks e h d = cc
parts Shift vs ps ks e h d = cc
parts Split (v ∷ w ∷ []) (p ∷ []) (k ∷ []) e h d = record { copies = v; own = w; whole = p; factor = k; vs_are = refl; ps_are = refl; ks_are = refl; are = h; dim = d.1.0 }
parts Split [] ps ks e h d = absurd h
parts Split (v ∷ []) ps ks e h d = absurd h
parts Split (v ∷ w ∷ (x ∷ vs)) ps ks e h d = absurd h
parts Split (v ∷ w ∷ []) [] ks e h d = absurd h
parts Split (v ∷ w ∷ []) (p ∷ []) [] e h d = absurd h
parts Split (v ∷ w ∷ []) (p ∷ []) (k ∷ (l ∷ ks)) e h d = absurd h
parts Split (v ∷ w ∷ []) (p ∷ (q ∷ ps)) ks e h d = absurd h

module _ (v : ViewMap) (m : IsViewMap v) (sort : v.sort ≡ Split) where
  parts_are : Parts v.sort v.shape.dims v.parent.dims v.by
  parts_are = parts v.sort v.shape.dims v.parent.dims v.by sort m.shape m.own.dims

  module _ (ps : List Dim) (ks : List ℕ) (d : Dim) (p_is : ps ≡ v.parent.dims) (k_is : ks ≡ v.by) where
    whole_is : get_or ps 0 d ≡ parts_are.whole
    whole_is = ap (λ l. get_or l 0 d) (p_is ∙ parts_are.ps_are)

    factor_is : get_or ks 0 0 ≡ parts_are.factor
    factor_is = ap (λ l. get_or l 0 0) (k_is ∙ parts_are.ks_are)

    share_of : (get_or ps 0 d).banks / get_or ks 0 0 ≡ parts_are.own.banks
    share_of =
        ap (λ (x : Dim). x.banks / get_or ks 0 0) whole_is ∙ (ap (λ n. parts_are.whole.banks / n) factor_is
        ∙ share_is (shared_of parts_are.copies parts_are.own parts_are.whole parts_are.factor parts_are.are parts_are.dim))

    pub split_share : 1 ≤ (get_or ps 0 d).banks / get_or ks 0 0
    split_share = subst (λ (n : ℕ). 1 ≤ n) (sym share_of) parts_are.dim.banks

    module _ (vs : List Dim) (e : Dim) (copy element : ℕ) (v_is : vs ≡ v.shape.dims) (a : copy < (get_or vs 0 e).size) (b : element < (get_or vs 1 e).size) where
      copy_below : copy < parts_are.factor
      copy_below = subst (λ (n : ℕ). copy < n) (ap (λ l. (get_or l 0 e).size) (v_is ∙ parts_are.vs_are) ∙ parts_are.are.0.0) a

      element_below : element < parts_are.own.size
      element_below = subst (λ (n : ℕ). element < n) (ap (λ l. (get_or l 1 e).size) (v_is ∙ parts_are.vs_are)) b

      pub split_below : dealt_index (get_or ps 0 d).banks ((get_or ps 0 d).banks / get_or ks 0 0) copy element < (get_or ps 0 d).size
      split_below =
          subst (λ (n : ℕ). dealt_index (get_or ps 0 d).banks n copy element < (get_or ps 0 d).size) (sym share_of)
          (subst (λ (x : Dim). dealt_index x.banks parts_are.own.banks copy element < x.size) (sym whole_is)
          (dealt_below (shared_of parts_are.copies parts_are.own parts_are.whole parts_are.factor parts_are.are parts_are.dim) copy element copy_below element_below))

  -- what two indices name that are inside
  named : (a b : ℕ) → a < parts_are.copies.size → b < parts_are.own.size → (es : List ℤ)
      → Some (pos (dealt_index parts_are.whole.banks (parts_are.whole.banks / parts_are.factor) a b) ∷ []) ≡ element_through v es (pos a ∷ (pos b ∷ []))
  named a b l n es =
      let p = parts_are in
      let s = shared_of p.copies p.own p.whole p.factor p.are p.dim in
      let place = dealt_index p.whole.banks (p.whole.banks / p.factor) a b in
      let below : place < p.whole.size = subst (λ (x : ℕ). dealt_index p.whole.banks x a b < p.whole.size) (sym (share_is s)) (dealt_below s a b (subst (λ (x : ℕ). a < x) p.are.0.0 l) n) in
      let plain : Some (pos place ∷ []) ≡ (if is_inside (p.copies ∷ (p.own ∷ [])) (pos a ∷ (pos b ∷ [])) then inside_of (p.whole ∷ []) (split_index p.whole.banks p.factor (pos a ∷ (pos b ∷ []))) else None) =
      sym (ap (λ x. if x && (is_index p.own.size (pos b) && true) then inside_of (p.whole ∷ []) (pos place ∷ []) else None) (index_is p.copies.size a l)
      ∙ (ap (λ x. if true && (x && true) then inside_of (p.whole ∷ []) (pos place ∷ []) else None) (index_is p.own.size b n)
      ∙ ap (λ x. if x && true then Some (pos place ∷ []) else None) (index_is p.whole.size place below)))
      in
      plain ∙ moved_back v.sort sort p es
    where
      moved_back : (s : ViewSort) → s ≡ Split → (p : Parts v.sort v.shape.dims v.parent.dims v.by) → (es : List ℤ)
          → (if is_inside (p.copies ∷ (p.own ∷ [])) (pos a ∷ (pos b ∷ [])) then inside_of (p.whole ∷ []) (split_index p.whole.banks p.factor (pos a ∷ (pos b ∷ []))) else None) ≡ element_through v es (pos a ∷ (pos b ∷ []))
      moved_back s e p es =
          ap (λ (x : List Dim). if is_inside x (pos a ∷ (pos b ∷ [])) then inside_of (p.whole ∷ []) (split_index p.whole.banks p.factor (pos a ∷ (pos b ∷ []))) else None) (sym p.vs_are)
          ∙ (ap (λ (x : List ℕ). if is_inside v.shape.dims (pos a ∷ (pos b ∷ [])) then inside_of (p.whole ∷ []) (parent_index Split (first_banks (p.whole ∷ [])) x es (pos a ∷ (pos b ∷ []))) else None) (sym p.ks_are)
          ∙ (ap (λ (x : List Dim). if is_inside v.shape.dims (pos a ∷ (pos b ∷ [])) then inside_of x (parent_index Split (first_banks x) v.by es (pos a ∷ (pos b ∷ []))) else None) (sym p.ps_are)
          ∙ ap (λ (x : ViewSort). if is_inside v.shape.dims (pos a ∷ (pos b ∷ [])) then inside_of v.parent.dims (parent_index x (first_banks v.parent.dims) v.by es (pos a ∷ (pos b ∷ []))) else None) (sym sort)))

-- What the two indices are that were found to be natural.

within_told : (size : ℕ) (z : ℤ) (n : ℕ) → Some n ≡ number_within size z → (z ≡ pos n) × (n < size)
within_told size z n e = by (is_index size z) refl e
  where
    or : Option ℕ → ℕ
    or None = 0
    or (Some k) = k

    by : (b : Bool) → is_index size z ≡ b → Some n ≡ (if b then Some (unsigned_abs z) else None) → (z ≡ pos n) × (n < size)
    by false f g = cc
    by true f g =
        let k = natural_of size z f in
        let same : n ≡ k.n = ap or g ∙ ap (λ (y : ℤ). unsigned_abs y) k.is in
        let l = k.below in
        (k.is ∙ ap pos (sym same), omega (arith, same, l))

two_of : (is : List ℤ) → length is ≡ 2 → is ≡ get_or is 0 (pos 0) ∷ (get_or is 1 (pos 0) ∷ [])
two_of [] e = absurd (omega (arith, e))
two_of (a ∷ []) e = absurd (omega (arith, e))
two_of (a ∷ b ∷ []) e = refl
two_of (a ∷ b ∷ (x ∷ is)) e = absurd (longer (length is) e)
  where
    longer : (n : ℕ) → suc (suc (suc n)) ≡ 2 → ⊥
    longer n f = omega (arith, f)

pub split_element : (v : ViewMap) (m : IsViewMap v) (sort : v.sort ≡ Split) (vs ps : List Dim) (ks : List ℕ) (d e : Dim) (is : List ℤ) (copy element place : ℕ) (numbers : List ℤ)
    → vs ≡ v.shape.dims → ps ≡ v.parent.dims → ks ≡ v.by → length is ≡ length v.shape.dims
    → Some copy ≡ number_within (get_or vs 0 e).size (get_or is 0 (pos 0)) → Some element ≡ number_within (get_or vs 1 e).size (get_or is 1 (pos 0))
    → place ≡ dealt_index (get_or ps 0 d).banks ((get_or ps 0 d).banks / get_or ks 0 0) copy element → numbers ≡ pos place ∷ []
    → (es : List ℤ) → Some numbers ≡ element_through v es is
split_element v m sort vs ps ks d e is copy element place numbers v_is p_is k_is long a b at told es =
    let q = parts_are v m sort in
    let first = within_told (get_or vs 0 e).size (get_or is 0 (pos 0)) copy a in
    let second = within_told (get_or vs 1 e).size (get_or is 1 (pos 0)) element b in
    let size0 : (get_or vs 0 e).size ≡ q.copies.size = ap (λ (l : List Dim). (get_or l 0 e).size) (v_is ∙ q.vs_are) in
    let size1 : (get_or vs 1 e).size ≡ q.own.size = ap (λ (l : List Dim). (get_or l 1 e).size) (v_is ∙ q.vs_are) in
    let two : length is ≡ 2 = long ∙ ap (λ (l : List Dim). length l) q.vs_are in
    let all : is ≡ pos copy ∷ (pos element ∷ []) =
    two_of is two ∙ (ap (λ (y : ℤ). y ∷ (get_or is 1 (pos 0) ∷ [])) first.0 ∙ ap (λ (y : ℤ). pos copy ∷ (y ∷ [])) second.0)
    in
    let place_is : place ≡ dealt_index q.whole.banks (q.whole.banks / q.factor) copy element =
    at ∙ (ap (λ (x : Dim). dealt_index x.banks (x.banks / get_or ks 0 0) copy element) (whole_is v m sort ps ks d p_is k_is) ∙ ap (λ n. dealt_index q.whole.banks (q.whole.banks / n) copy element) (factor_is v m sort ps ks d p_is k_is))
    in
    ap Some told ∙ (ap (λ n. Some (pos n ∷ [])) place_is
    ∙ (named v m sort copy element (subst (λ (n : ℕ). copy < n) size0 first.1) (subst (λ (n : ℕ). element < n) size1 second.1) es ∙ ap (λ (l : List ℤ). element_through v es l) (sym all)))
