-- How the banks of a view and of its parent go together, for the elements that one list of offsets leads to.
use Rattle.std.proofs.Common.{◌≡◌, ℕ, suc, ◌+◌, ◌*◌, ◌/◌, ◌%◌, ◌<◌, ◌≤◌, ◌&&◌, Bool, true, false, List, [], ◌∷◌, length, map, refl, sym, ap, subst, ◌∙◌, arith}
use Rattle.std.specs.Prelude.{ℤ, pos, ◌+ℤ◌, unsigned_abs}
use Rattle.std.specs.List.{AllByRecursion}
use Rattle.std.proofs.lemmas.Bool.{eqb-true}
use Rattle.std.proofs.lemmas.Int.{ints}
use Rattle.std.proofs.lemmas.Nat.{div-mul-add, mod-mul-add, div-add-mod'}
use Rattle.std.proofs.Math.Nat.{add-mul-mod_self_right}
use Rattle.dh_tree.specs.declared.tables.Dim.{Dim}
use Rattle.dh_tree.specs.Elements.{banks_of}
use Rattle.dh_tree.specs.Shapes.{IsDim}
use Rattle.dh_tree.specs.declared.viewing.ViewMap.{ViewMap}
use Rattle.dh_tree.specs.declared.viewing.ViewSort.{ViewSort}
use Rattle.dh_tree.specs.declared.viewing.ViewSort.TheVariants.{Shrink, Split, Suffix, Shift}
use Rattle.dh_viewing.specs.ReachedBanks.{bank_at, covering, is_reached_by_sort}
use Rattle.dh_tree.specs.ViewElements.{is_index, is_inside, sums, parent_index, first_banks}
use Rattle.dh_tree.specs.ViewShapes.{IsShapeOf, IsViewMap}
use Rattle.dh_viewing.proofs.BankDigits.{first_of, rest_of, natural_of, bank_at_below}
use Rattle.dh_viewing.proofs.ReachTold.{found_of, told_all}
use Rattle.dh_viewing.specs.Carried.{Passed, IsPassed, Goes, LeadsSo}

-- Numbers.

row_is : (a b c e w : ℕ) → b < w → e < w → a * w + b ≡ c * w + e → a ≡ c
row_is a b c e w l m h = sym (div-mul-add a w b l) ∙ (ap (λ n. n / w) h ∙ div-mul-add c w e m)

column_is : (a b c e w : ℕ) → b < w → e < w → a * w + b ≡ c * w + e → b ≡ e
column_is a b c e w l m h = sym (mod-mul-add a w b l) ∙ (ap (λ n. n % w) h ∙ mod-mul-add c w e m)

-- so many steps from two numbers lead to one residue only where these have one
same_start : (m n k r s : ℕ) → r + k ≡ s + n → r % m ≡ s % m → n % m ≡ k % m
same_start m n k r s h e =
    let a = div-add-mod' r m in
    let b = div-add-mod' s m in
    let sum : n + (s / m) * m ≡ k + (r / m) * m = omega (arith, h, e, a, b) in
    sym (add-mul-mod_self_right n (s / m) m) ∙ (ap (λ x. x % m) sum ∙ add-mul-mod_self_right k (r / m) m)

shift_residue : (m size : ℕ) (e i j : ℤ) → is_index size i ≡ true → is_index size j ≡ true → is_index size (e +ℤ i) ≡ true → is_index size (e +ℤ j) ≡ true
    → unsigned_abs (e +ℤ i) % m ≡ unsigned_abs (e +ℤ j) % m → unsigned_abs i % m ≡ unsigned_abs j % m
shift_residue m size e i j hi hj hr hs same =
    let n = natural_of size i hi in
    let k = natural_of size j hj in
    let r = natural_of size (e +ℤ i) hr in
    let s = natural_of size (e +ℤ j) hs in
    let x : e +ℤ pos n.n ≡ pos r.n = ap (λ (y : ℤ). e +ℤ y) (sym n.is) ∙ r.is in
    let y : e +ℤ pos k.n ≡ pos s.n = ap (λ (y : ℤ). e +ℤ y) (sym k.is) ∙ s.is in
    let sum : r.n + k.n ≡ s.n + n.n = steps e n.n k.n r.n s.n x y in
    let residues : r.n % m ≡ s.n % m = ap (λ (y : ℤ). unsigned_abs y % m) (sym r.is) ∙ (same ∙ ap (λ (y : ℤ). unsigned_abs y % m) s.is) in
    ap (λ (y : ℤ). unsigned_abs y % m) n.is ∙ (same_start m n.n k.n r.n s.n sum residues ∙ sym (ap (λ (y : ℤ). unsigned_abs y % m) k.is))
  where
    steps : (e : ℤ) (n k r s : ℕ) → e +ℤ pos n ≡ pos r → e +ℤ pos k ≡ pos s → r + k ≡ s + n
    steps e n k r s x y = omega (arith, ints, x, y)

-- Shifts.

same_shift : (ds : List Dim) (es is js : List ℤ) → AllByRecursion IsDim ds → is_inside ds is ≡ true → is_inside ds js ≡ true → is_inside ds (sums es is) ≡ true → is_inside ds (sums es js) ≡ true
    → bank_at ds (sums es is) ≡ bank_at ds (sums es js) → bank_at ds is ≡ bank_at ds js
same_shift [] es is js h a b c e same = refl
same_shift (d ∷ ds) [] is js h a b c e same = cc
same_shift (d ∷ ds) (x ∷ es) [] js h a b c e same = cc
same_shift (d ∷ ds) (x ∷ es) (i ∷ is) [] h a b c e same = cc
same_shift (d ∷ ds) (x ∷ es) (i ∷ is) (j ∷ js) h a b c e same =
    let ci = rest_of (is_index d.size (x +ℤ i)) (is_inside ds (sums es is)) c in
    let cj = rest_of (is_index d.size (x +ℤ j)) (is_inside ds (sums es js)) e in
    let bi = bank_at_below ds (sums es is) h.1 ci in
    let bj = bank_at_below ds (sums es js) h.1 cj in
    let row = row_is (unsigned_abs (x +ℤ i) % d.banks) (bank_at ds (sums es is)) (unsigned_abs (x +ℤ j) % d.banks) (bank_at ds (sums es js)) (banks_of ds) bi bj same in
    let column = column_is (unsigned_abs (x +ℤ i) % d.banks) (bank_at ds (sums es is)) (unsigned_abs (x +ℤ j) % d.banks) (bank_at ds (sums es js)) (banks_of ds) bi bj same in
    let first : unsigned_abs i % d.banks ≡ unsigned_abs j % d.banks =
    shift_residue d.banks d.size x i j (first_of (is_index d.size i) (is_inside ds is) a) (first_of (is_index d.size j) (is_inside ds js) b)
    (first_of (is_index d.size (x +ℤ i)) (is_inside ds (sums es is)) c) (first_of (is_index d.size (x +ℤ j)) (is_inside ds (sums es js)) e) row
    in
    let rest = same_shift ds es is js h.1 (rest_of (is_index d.size i) (is_inside ds is) a) (rest_of (is_index d.size j) (is_inside ds js) b) ci cj column in
    ap (λ n. n * banks_of ds + bank_at ds is) first ∙ ap (λ n. (unsigned_abs j % d.banks) * banks_of ds + n) rest

-- One view.

-- indices and the element that they name, by the sort of the view
pub record Names (s : ViewSort) (vs ps : List Dim) (ks : List ℕ) (es : List ℤ) (p : Passed) : Type 0 where
  pub inside : is_inside vs p.indices ≡ true
  pub there : is_inside ps p.element ≡ true
  pub is : parent_index s (first_banks ps) ks es p.indices ≡ p.element

module _ (vs ps : List Dim) (ks : List ℕ) (es : List ℤ) (own : AllByRecursion IsDim vs) (dims : AllByRecursion IsDim ps) (Here : Passed → Type 0) where
  told_at : (s : ViewSort) → IsShapeOf s vs ps ks → (p : Passed) → Names s vs ps ks es p → is_reached_by_sort s vs ps (bank_at vs p.indices) (bank_at ps p.element) ≡ true
  told_at s h p n =
      told_all s vs ps ks es p.indices (bank_at vs p.indices) (bank_at ps p.element) h own dims n.inside (subst (λ (l : List ℤ). is_inside ps l ≡ true) (sym n.is) n.there) refl
      (ap (λ (l : List ℤ). bank_at ps l) n.is)

  goes : (s : ViewSort) → IsShapeOf s vs ps ks → ((p : Passed) → Here p → Names s vs ps ks es p) → Goes s vs ps Here (λ p. bank_at vs p.indices) (λ p. bank_at ps p.element)
  goes Shrink h names = λ p here. sym (eqb-true (covering vs ps (bank_at ps p.element)) (bank_at vs p.indices) (told_at Shrink h p (names p here)))
  goes Split h names = λ p here. sym (eqb-true (bank_at ps p.element) (bank_at vs p.indices) (told_at Split h p (names p here)))
  goes Suffix h names = λ p here. sym (eqb-true (bank_at ps p.element) (bank_at vs p.indices) (told_at Suffix h p (names p here)))
  goes Shift h names = (
    (λ p here. bank_at_below vs p.indices own (names p here).inside),
    λ p q here there same. shifted p q (names p here) (names q there) same,
  )
    where
      shifted : (p q : Passed) → Names Shift vs ps ks es p → Names Shift vs ps ks es q → bank_at ps p.element ≡ bank_at ps q.element → bank_at vs p.indices ≡ bank_at vs q.indices
      shifted p q m n same =
          subst (λ (l : List Dim). bank_at l p.indices ≡ bank_at l q.indices) (sym h.0)
          (same_shift ps es p.indices q.indices dims (subst (λ (l : List Dim). is_inside l p.indices ≡ true) h.0 m.inside) (subst (λ (l : List Dim). is_inside l q.indices ≡ true) h.0 n.inside)
          (subst (λ (l : List ℤ). is_inside ps l ≡ true) (sym m.is) m.there) (subst (λ (l : List ℤ). is_inside ps l ≡ true) (sym n.is) n.there)
          (ap (λ (l : List ℤ). bank_at ps l) m.is ∙ (same ∙ sym (ap (λ (l : List ℤ). bank_at ps l) n.is))))

pub leads_so : (v : ViewMap) → IsViewMap v → LeadsSo v
leads_so v m offsets =
    goes v.shape.dims v.parent.dims v.by offsets m.own.dims m.parent.dims (IsPassed v offsets) v.sort m.shape
    (λ p here. let f = found_of v offsets p.indices p.element here in record { inside = f.inside; there = f.there; is = f.is })
