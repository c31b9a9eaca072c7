-- The banks of the parent that are told to be reached are exactly those that are reached.
use Rattle.std.proofs.Common.{◌≡◌, ℕ, suc, ◌+◌, ◌*◌, ◌/◌, ◌%◌, ◌==◌, ◌<◌, ◌&&◌, Bool, true, false, if◌then◌else◌, List, [], ◌∷◌, length, replicate, Option, Some, None, refl, sym, ap, subst, ◌∙◌, arith}
use Rattle.std.specs.Prelude.{ℤ, pos}
use Rattle.std.specs.List.{AllByRecursion}
use Rattle.std.proofs.lemmas.Bool.{eqb-true, eq-eqb}
use Rattle.std.proofs.lemmas.List.{length-replicate}
use Rattle.std.proofs.lemmas.Nat.{div-add-mod'}
use Rattle.std.proofs.Math.Nat.{mod-lt, mod-eq_of_lt, mul-one, mul_comm}
use Rattle.dh_tree.proofs.BankElements.{whole, row_below}
use Rattle.dh_tree.specs.declared.tables.Dim.{Dim}
use Rattle.dh_tree.specs.Elements.{banks_of}
use Rattle.dh_tree.specs.Shapes.{IsDim}
use Rattle.dh_tree.specs.declared.viewing.ViewMap.{ViewMap}
use Rattle.dh_tree.specs.declared.viewing.ViewSort.{ViewSort}
use Rattle.dh_tree.specs.declared.viewing.ViewSort.TheVariants.{Shrink, Split, Suffix, Shift}
use Rattle.dh_viewing.specs.ReachedBanks.{ReachesBank, bank_at, covering, is_reached_by_sort, can_reach}
use Rattle.dh_tree.specs.ViewElements.{is_index, is_inside, inside_of, split_index, dealt_index, element_through, named_by, parent_index, first_banks}
use Rattle.dh_tree.specs.ViewShapes.{IsShapeOf, AreDimsOf, AreSplitOf, IsViewMap}
use Rattle.dh_viewing.proofs.BankDigits.{both, first_of, rest_of, index_is, natural_of, banks_fit, indices_of, indices_long, digits_inside, digits_bank, bank_at_below}
use Rattle.dh_viewing.proofs.SplitElements.{Shared, share_is, dealt_column, first_row}
use Rattle.dh_viewing.proofs.ViewBanks.{same_inside, covered_digits, covered_element, suffix_bank, nothing_moved, differences, moved_to, differences_long}

-- What an element that is named tells.

pub record Found (v : ViewMap) (offsets indices element : List ℤ) : Type 0 where
  pub inside : is_inside v.shape.dims indices ≡ true
  pub there : is_inside v.parent.dims element ≡ true
  pub is : named_by v offsets indices ≡ element

chosen : (a b : Bool) (xs ys : List ℤ) → (if a then (if b then Some xs else None) else None) ≡ Some ys → (a ≡ true) × ((b ≡ true) × (xs ≡ ys))
chosen true true xs ys e = (refl, (refl, some_same xs ys e))
  where
    first : Option (List ℤ) → List ℤ
    first None = []
    first (Some zs) = zs

    some_same : (xs ys : List ℤ) → Some xs ≡ Some ys → xs ≡ ys
    some_same xs ys e = ap first e
chosen true false xs ys e = cc
chosen false b xs ys e = cc

pub found_of : (v : ViewMap) (offsets indices element : List ℤ) → element_through v offsets indices ≡ Some element → Found v offsets indices element
found_of v offsets indices element e =
    let h = chosen (is_inside v.shape.dims indices) (is_inside v.parent.dims (named_by v offsets indices)) (named_by v offsets indices) element e in
    record { inside = h.0; there = subst (λ (l : List ℤ). is_inside v.parent.dims l ≡ true) h.1.1 h.1.0; is = h.1.1 }

-- and what is named where both are inside
pub named_where : (v : ViewMap) (offsets indices element : List ℤ) → Found v offsets indices element → element_through v offsets indices ≡ Some element
named_where v offsets indices element f =
    ap (λ b. if b then inside_of v.parent.dims (named_by v offsets indices) else None) f.inside
    ∙ (ap (λ (l : List ℤ). inside_of v.parent.dims l) f.is ∙ ap (λ b. if b then Some element else None) f.there)

-- A bank that is reached is told.

equal_told : (m n : ℕ) → m ≡ n → (m == n) ≡ true
equal_told m n e = eq-eqb m n e

module _ (v : ViewMap) (bank c : ℕ) (m : IsViewMap v) where
  pub reach_below : ReachesBank v bank c → c < banks_of v.parent.dims
  reach_below r =
      let f = found_of v r.offsets r.indices r.element r.named in
      subst (λ (n : ℕ). n < banks_of v.parent.dims) r.to_bank (bank_at_below v.parent.dims r.element m.parent.dims f.there)

told_shrink : (vs ps : List Dim) (ks : List ℕ) (is : List ℤ) (bank c : ℕ) → AreDimsOf Shrink vs ps ks → AllByRecursion IsDim ps → is_inside ps is ≡ true
    → bank_at vs is ≡ bank → bank_at ps is ≡ c → (covering vs ps c == bank) ≡ true
told_shrink vs ps ks is bank c h dims e from to = equal_told (covering vs ps c) bank (ap (λ n. covering vs ps n) (sym to) ∙ (covered_element vs ps ks is h dims e ∙ from))

-- the shares of a split
pub shared_of : (v w p : Dim) (k : ℕ) → AreSplitOf (v ∷ w ∷ []) (p ∷ []) (k ∷ []) → IsDim w → Shared p.banks k w.banks p.size w.size
shared_of v w p k h d = record {
  factors = h.1.1.1;
  shares = d.banks;
  all_banks = h.1.1.0;
  all_elements = h.1.0;
  rows = w.size / w.banks;
  row_wise = whole w.size w.banks d.divides;
}

-- the bank of one dimension
one_dim_bank : (p : Dim) (n : ℕ) → bank_at (p ∷ []) (pos n ∷ []) ≡ n % p.banks
one_dim_bank p n = by (n % p.banks)
  where
    by : (m : ℕ) → m * 1 + 0 ≡ m
    by m = omega (arith, mul-one m)

two_dims_bank : (v w : Dim) (a b : ℕ) → a < v.banks → bank_at (v ∷ w ∷ []) (pos a ∷ (pos b ∷ [])) ≡ a * w.banks + b % w.banks
two_dims_bank v w a b l = ap (λ n. n * (w.banks * 1) + ((b % w.banks) * 1 + 0)) (mod-eq_of_lt l) ∙ by w.banks (b % w.banks)
  where
    by : (m n : ℕ) → a * (m * 1) + (n * 1 + 0) ≡ a * m + n
    by m n = ap (λ k. a * k + (n * 1 + 0)) (mul-one m) ∙ omega (arith, mul-one n)

told_split : (v w p : Dim) (k : ℕ) (is : List ℤ) (bank c : ℕ) → AreSplitOf (v ∷ w ∷ []) (p ∷ []) (k ∷ []) → IsDim w → is_inside (v ∷ w ∷ []) is ≡ true
    → bank_at (v ∷ w ∷ []) is ≡ bank → bank_at (p ∷ []) (split_index p.banks k is) ≡ c → (c == bank) ≡ true
told_split v w p k [] bank c h d e from to = cc
told_split v w p k (a ∷ []) bank c h d e from to = no (is_index v.size a) e
  where
    no : (b : Bool) → (b && false) ≡ true → (c == bank) ≡ true
    no true e = cc
    no false e = cc
told_split v w p k (a ∷ b ∷ (x ∷ more)) bank c h d e from to = no (is_index v.size a) (is_index w.size b) e
  where
    no : (b b' : Bool) → (b && (b' && false)) ≡ true → (c == bank) ≡ true
    no true true e = cc
    no true false e = cc
    no false b' e = cc
told_split v w p k (a ∷ b ∷ []) bank c h d e from to =
    let s = shared_of v w p k h d in
    let first = natural_of v.size a (first_of (is_index v.size a) (is_index w.size b && true) e) in
    let second = natural_of w.size b (first_of (is_index w.size b) true (rest_of (is_index v.size a) (is_index w.size b && true) e)) in
    let m = first.n in
    let n = second.n in
    let copy : m < k = subst (λ (x : ℕ). m < x) h.0.0 first.below in
    let view : bank_at (v ∷ w ∷ []) (a ∷ (b ∷ [])) ≡ m * w.banks + n % w.banks =
    ap (λ (y : ℤ). bank_at (v ∷ w ∷ []) (y ∷ (b ∷ []))) first.is
    ∙ (ap (λ (y : ℤ). bank_at (v ∷ w ∷ []) (pos m ∷ (y ∷ []))) second.is ∙ two_dims_bank v w m n (subst (λ (x : ℕ). m < x) (sym h.0.1) copy))
    in
    let parent : bank_at (p ∷ []) (split_index p.banks k (a ∷ (b ∷ []))) ≡ m * w.banks + n % w.banks =
    ap (λ (y : ℤ). bank_at (p ∷ []) (split_index p.banks k (y ∷ (b ∷ [])))) first.is
    ∙ (ap (λ (y : ℤ). bank_at (p ∷ []) (split_index p.banks k (pos m ∷ (y ∷ [])))) second.is
    ∙ (one_dim_bank p (dealt_index p.banks (p.banks / k) m n)
    ∙ (ap (λ x. dealt_index p.banks x m n % p.banks) (share_is s) ∙ dealt_column s m n copy)))
    in
    equal_told c bank (sym to ∙ (parent ∙ (sym view ∙ from)))

pub told_all : (s : ViewSort) (vs ps : List Dim) (ks : List ℕ) (es is : List ℤ) (bank c : ℕ) → IsShapeOf s vs ps ks → AllByRecursion IsDim vs → AllByRecursion IsDim ps
    → is_inside vs is ≡ true → is_inside ps (parent_index s (first_banks ps) ks es is) ≡ true → bank_at vs is ≡ bank → bank_at ps (parent_index s (first_banks ps) ks es is) ≡ c
    → is_reached_by_sort s vs ps bank c ≡ true
told_all Shrink vs ps ks es is bank c h own dims inside there from to = told_shrink vs ps ks is bank c h dims there from to
told_all Suffix vs ps ks es is bank c h own dims inside there from to = equal_told c bank (sym to ∙ (suffix_bank vs ps ks es is h inside there ∙ from))
told_all Shift vs ps ks es is bank c h own dims inside there from to = refl
told_all Split (v ∷ w ∷ []) (p ∷ []) (k ∷ []) es is bank c h own dims inside there from to = told_split v w p k is bank c h own.1.0 inside from to
told_all Split [] ps ks es is bank c h own dims inside there from to = absurd h
told_all Split (v ∷ []) ps ks es is bank c h own dims inside there from to = absurd h
told_all Split (v ∷ w ∷ (x ∷ vs)) ps ks es is bank c h own dims inside there from to = absurd h
told_all Split (v ∷ w ∷ []) [] ks es is bank c h own dims inside there from to = absurd h
told_all Split (v ∷ w ∷ []) (p ∷ []) [] es is bank c h own dims inside there from to = absurd h
told_all Split (v ∷ w ∷ []) (p ∷ []) (k ∷ (l ∷ ks)) es is bank c h own dims inside there from to = absurd h
told_all Split (v ∷ w ∷ []) (p ∷ (q ∷ ps)) ks es is bank c h own dims inside there from to = absurd h

pub reached_told : (v : ViewMap) (bank c : ℕ) → IsViewMap v → ReachesBank v bank c → can_reach v bank c ≡ true
reached_told v bank c m r =
    let f = found_of v r.offsets r.indices r.element r.named in
    told_all v.sort v.shape.dims v.parent.dims v.by r.offsets r.indices bank c m.shape m.own.dims m.parent.dims f.inside
    (subst (λ (l : List ℤ). is_inside v.parent.dims l ≡ true) (sym f.is) f.there) r.from_bank (ap (λ (l : List ℤ). bank_at v.parent.dims l) f.is ∙ r.to_bank)

-- A bank that is told is reached.

pub record Witness (s : ViewSort) (vs ps : List Dim) (ks : List ℕ) (bank c : ℕ) : Type 0 where
  pub offsets : List ℤ
  pub indices : List ℤ
  pub long : length offsets ≡ length ps
  pub inside : is_inside vs indices ≡ true
  pub there : is_inside ps (parent_index s (first_banks ps) ks offsets indices) ≡ true
  pub from : bank_at vs indices ≡ bank
  pub to : bank_at ps (parent_index s (first_banks ps) ks offsets indices) ≡ c

told_equal : (m n : ℕ) → (m == n) ≡ true → m ≡ n
told_equal m n e = eqb-true m n e

zeros_long : (ps : List Dim) (n : ℕ) → n ≡ length ps → length (replicate n (pos 0)) ≡ length ps
zeros_long ps n e = length-replicate n (pos 0) ∙ e

shrink_witness : (vs ps : List Dim) (ks : List ℕ) (bank c : ℕ) → AreDimsOf Shrink vs ps ks → AllByRecursion IsDim ps → c < banks_of ps → (covering vs ps c == bank) ≡ true → Witness Shrink vs ps ks bank c
shrink_witness vs ps ks bank c h dims below e =
    let there = digits_inside ps c dims below in
    record {
      offsets = replicate (length ps) (pos 0);
      indices = indices_of ps c;
      long = zeros_long ps (length ps) refl;
      inside = same_inside vs ps ks (indices_of ps c) h ∙ there;
      there = there;
      from = covered_digits vs ps ks c h ∙ told_equal (covering vs ps c) bank e;
      to = digits_bank ps c dims below;
    }

suffix_same : (vs ps : List Dim) (ks : List ℕ) → AreDimsOf Suffix vs ps ks → (vs ≡ ps) × (length ks ≡ length ps)
suffix_same [] [] [] h = (refl, refl)
suffix_same [] [] (k ∷ ks) h = absurd h
suffix_same [] (p ∷ ps) ks h = absurd h
suffix_same (v ∷ vs) [] ks h = absurd h
suffix_same (v ∷ vs) (p ∷ ps) [] h = absurd h
suffix_same (v ∷ vs) (p ∷ ps) (k ∷ ks) h =
    let rest = suffix_same vs ps ks h.1 in (ap (λ (d : Dim). d ∷ vs) h.0.0 ∙ ap (λ (l : List Dim). p ∷ l) rest.0, ap suc rest.1)

suffix_witness : (vs ps : List Dim) (ks : List ℕ) (bank c : ℕ) → vs ≡ ps → length ks ≡ length ps → AllByRecursion IsDim ps → c < banks_of ps → (c == bank) ≡ true → Witness Suffix vs ps ks bank c
suffix_witness vs ps ks bank c same long dims below e =
    let is = indices_of ps c in
    let i_long = indices_long ps c in
    let there = digits_inside ps c dims below in
    let stays = nothing_moved ks is (long ∙ sym i_long) in
    let at = digits_bank ps c dims below in
    record {
      offsets = replicate (length is) (pos 0);
      indices = is;
      long = zeros_long ps (length is) i_long;
      inside = subst (λ (l : List Dim). is_inside l is ≡ true) (sym same) there;
      there = subst (λ (l : List ℤ). is_inside ps l ≡ true) (sym stays) there;
      from = subst (λ (l : List Dim). bank_at l is ≡ bank) (sym same) (at ∙ told_equal c bank e);
      to = ap (λ (l : List ℤ). bank_at ps l) stays ∙ at;
    }

shift_witness : (vs ps : List Dim) (ks : List ℕ) (bank c : ℕ) → vs ≡ ps → AllByRecursion IsDim ps → bank < banks_of ps → c < banks_of ps → Witness Shift vs ps ks bank c
shift_witness vs ps ks bank c same dims mine below =
    let from = indices_of ps bank in
    let to = indices_of ps c in
    let equal : length to ≡ length from = indices_long ps c ∙ sym (indices_long ps bank) in
    let moved = moved_to to from equal in
    record {
      offsets = differences to from;
      indices = from;
      long = differences_long to from equal ∙ indices_long ps c;
      inside = subst (λ (l : List Dim). is_inside l from ≡ true) (sym same) (digits_inside ps bank dims mine);
      there = subst (λ (l : List ℤ). is_inside ps l ≡ true) (sym moved) (digits_inside ps c dims below);
      from = subst (λ (l : List Dim). bank_at l from ≡ bank) (sym same) (digits_bank ps bank dims mine);
      to = ap (λ (l : List ℤ). bank_at ps l) moved ∙ digits_bank ps c dims below;
    }

split_witness : (v w p : Dim) (k bank c : ℕ) → AreSplitOf (v ∷ w ∷ []) (p ∷ []) (k ∷ []) → IsDim w → IsDim p → c < banks_of (p ∷ []) → (c == bank) ≡ true
    → Witness Split (v ∷ w ∷ []) (p ∷ []) (k ∷ []) bank c
split_witness v w p k bank c h dw dp below e =
    let s = shared_of v w p k h dw in
    let small : c < p.banks = omega (arith, below, mul-one p.banks) in
    let a = c / w.banks in
    let b = c % w.banks in
    let copy : a < k = row_below c k w.banks (let all = h.1.1.0 in omega (arith, small, all, mul_comm k w.banks)) in
    let column = mod-lt c {m = w.banks} dw.banks in
    let part = banks_fit w dw in
    let there : dealt_index p.banks (p.banks / k) a b ≡ c = ap (λ x. dealt_index p.banks x a b) (share_is s) ∙ first_row s c in
    let fits = banks_fit p dp in
    record {
      offsets = pos 0 ∷ [];
      indices = pos a ∷ (pos b ∷ []);
      long = refl;
      inside = both (is_index v.size (pos a)) (is_index w.size (pos b) && true) (index_is v.size a (subst (λ (x : ℕ). a < x) (sym h.0.0) copy)) (both (is_index w.size (pos b)) true (index_is w.size b (omega (arith, column, part))) refl);
      there = subst (λ (n : ℕ). (is_index p.size (pos n) && true) ≡ true) (sym there) (both (is_index p.size (pos c)) true (index_is p.size c (omega (arith, small, fits))) refl);
      from = two_dims_bank v w a b (subst (λ (x : ℕ). a < x) (sym h.0.1) copy) ∙ (ap (λ n. a * w.banks + n) (mod-eq_of_lt column) ∙ (div-add-mod' c w.banks ∙ told_equal c bank e));
      to = one_dim_bank p (dealt_index p.banks (p.banks / k) a b) ∙ (ap (λ n. n % p.banks) there ∙ mod-eq_of_lt small);
    }

witness_of : (s : ViewSort) (vs ps : List Dim) (ks : List ℕ) (bank c : ℕ) → IsShapeOf s vs ps ks → AllByRecursion IsDim vs → AllByRecursion IsDim ps
    → bank < banks_of vs → c < banks_of ps → is_reached_by_sort s vs ps bank c ≡ true → Witness s vs ps ks bank c
witness_of Shrink vs ps ks bank c h own dims mine below e = shrink_witness vs ps ks bank c h dims below e
witness_of Suffix vs ps ks bank c h own dims mine below e = let same = suffix_same vs ps ks h in suffix_witness vs ps ks bank c same.0 same.1 dims below e
witness_of Shift vs ps ks bank c h own dims mine below e = shift_witness vs ps ks bank c h.0 dims (subst (λ (l : List Dim). bank < banks_of l) h.0 mine) below
witness_of Split (v ∷ w ∷ []) (p ∷ []) (k ∷ []) bank c h own dims mine below e = split_witness v w p k bank c h own.1.0 dims.0 below e
witness_of Split [] ps ks bank c h own dims mine below e = absurd h
witness_of Split (v ∷ []) ps ks bank c h own dims mine below e = absurd h
witness_of Split (v ∷ w ∷ (x ∷ vs)) ps ks bank c h own dims mine below e = absurd h
witness_of Split (v ∷ w ∷ []) [] ks bank c h own dims mine below e = absurd h
witness_of Split (v ∷ w ∷ []) (p ∷ []) [] bank c h own dims mine below e = absurd h
witness_of Split (v ∷ w ∷ []) (p ∷ []) (k ∷ (l ∷ ks)) bank c h own dims mine below e = absurd h
witness_of Split (v ∷ w ∷ []) (p ∷ (q ∷ ps)) ks bank c h own dims mine below e = absurd h

pub told_reached : (v : ViewMap) (bank c : ℕ) → IsViewMap v → bank < banks_of v.shape.dims → c < banks_of v.parent.dims → can_reach v bank c ≡ true → ReachesBank v bank c
told_reached v bank c m mine below e =
    let w = witness_of v.sort v.shape.dims v.parent.dims v.by bank c m.shape m.own.dims m.parent.dims mine below e in
    record {
      offsets = w.offsets;
      indices = w.indices;
      element = named_by v w.offsets w.indices;
      long = w.long;
      named = named_where v w.offsets w.indices (named_by v w.offsets w.indices) (record { inside = w.inside; there = w.there; is = refl });
      from_bank = w.from;
      to_bank = w.to;
    }
