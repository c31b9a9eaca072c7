-- A bank behind views is charged no less than a bank of what is named from which it may be reached; and with a shift
-- among the views, each bank is charged no less than any bank of what is named.
use Rattle.std.proofs.Common.{◌≡◌, ◌⊎◌, inl, inr, ℕ, zero, suc, ◌*◌, ◌<◌, ◌≤◌, ◌&&◌, ◌||◌, max, Bool, true, false, List, [], ◌∷◌, map, refl, ap, sym, ◌∙◌, subst, arith}
use Rattle.std.specs.List.{AllByRecursion}
use Rattle.std.proofs.lemmas.Bool.{eq-eqb, eqb-true}
use Rattle.dh_tree.specs.declared.tables.Dim.{Dim}
use Rattle.dh_tree.specs.declared.viewing.ViewSort.{ViewSort}
use Rattle.dh_tree.specs.declared.viewing.ViewSort.TheVariants.{Shrink, Split, Suffix, Shift}
use Rattle.dh_tree.specs.Elements.{banks_of}
use Rattle.dh_tree.specs.Shapes.{IsDim}
use Rattle.dh_tree.specs.ViewElements.{is_inside}
use Rattle.dh_tree.specs.ViewShapes.{AreDimsOf, IsShapeOf}
use Rattle.dh_viewing.specs.Carried.{HasShift, carried, carried_as, carried_by, largest}
use Rattle.dh_viewing.specs.ReachedBanks.{bank_at, can_reach, covering, is_reached_by_sort}
use Rattle.dh_viewing.proofs.BankDigits.{bank_at_below, digits_bank, digits_inside, indices_of}
use Rattle.dh_viewing.proofs.ViewBanks.{covered_element, same_inside}
use Rattle.dh_meaning.specs.Ways.{WayStep}
use Rattle.dh_meets.specs.Charges.{any_below, may_reach}
use Rattle.dh_ways.specs.Leading.{StepsLead, next_dims}
use Rattle.dh_carried.proofs.CarriedKeys.{evenly}
use Rattle.dh_carried.proofs.WaysReached.{any_found}

-- One view.

largest_most : (charge : ℕ → ℕ) (n m : ℕ) → m < n → charge m ≤ largest charge n
largest_most charge zero m e = absurd (none m e)
  where
    none : (m : ℕ) → m < 0 → ⊥
    none m e = omega (arith, e)
largest_most charge (suc n) m e = by (split m n e) (largest_most charge n m)
  where
    split : (m n : ℕ) → m < suc n → (m < n) ⊎ (m ≡ n)
    split m n e = grind (arith, e)

    left : (x a b : ℕ) → x ≤ a → x ≤ max a b
    left x a b e = grind (arith, e)

    right : (a b : ℕ) → b ≤ max a b
    right a b = grind arith

    by : (m < n) ⊎ (m ≡ n) → (m < n → charge m ≤ largest charge n) → charge m ≤ max (largest charge n) (charge n)
    by (inl f) rest = left (charge m) (largest charge n) (charge n) (rest f)
    by (inr f) rest = subst (λ (x : ℕ). charge x ≤ max (largest charge n) (charge n)) (sym f) (right (largest charge n) (charge n))

itself : (n : ℕ) → n ≤ n
itself n = omega arith

same_charge : (charge : ℕ → ℕ) (c b : ℕ) → c ≡ b → charge b ≤ charge c
same_charge charge c b e = subst (λ (x : ℕ). charge x ≤ charge c) e (itself (charge c))

-- a bank of the parent is charged no less than a bank of the view from which it is reached
as_much : (s : ViewSort) (vs ps : List Dim) (charge : ℕ → ℕ) (b c : ℕ) → is_reached_by_sort s vs ps b c ≡ true → b < banks_of vs → charge b ≤ carried_as s vs ps charge c
as_much Shrink vs ps charge b c r inside = same_charge charge (covering vs ps c) b (eqb-true (covering vs ps c) b r)
as_much Split vs ps charge b c r inside = same_charge charge c b (eqb-true c b r)
as_much Suffix vs ps charge b c r inside = same_charge charge c b (eqb-true c b r)
as_much Shift vs ps charge b c r inside = largest_most charge (banks_of vs) b inside

-- suffixes have the dimensions of their parents
suffix_same : (vs ps : List Dim) (ks : List ℕ) → AreDimsOf Suffix vs ps ks → vs ≡ ps
suffix_same [] [] [] h = refl
suffix_same [] [] (k ∷ ks) h = absurd h
suffix_same [] (p ∷ ps) ks h = absurd h
suffix_same (v ∷ vs) [] ks h = absurd h
suffix_same (v ∷ vs) (p ∷ ps) [] h = absurd h
suffix_same (v ∷ vs) (p ∷ ps) (k ∷ ks) h = ap (λ d. d ∷ vs) h.0.0 ∙ ap (λ ds. p ∷ ds) (suffix_same vs ps ks h.1)

-- splits have the banks of their parents
split_banks : (a w b k : ℕ) → a ≡ k → w * k ≡ b → a * (w * 1) ≡ b * 1
split_banks a w b k e f = ap (λ n. n * (w * 1)) e ∙ (swapped k w ∙ ap (λ n. n * 1) f)
  where
    swapped : (k w : ℕ) → k * (w * 1) ≡ w * k * 1
    swapped k w = omega arith

-- a bank of the parent that is reached from a bank of the view
record Onto (s : ViewSort) (vs ps : List Dim) (b : ℕ) : Type 0 where
  pub behind : ℕ
  pub inside : behind < banks_of ps
  pub reached : is_reached_by_sort s vs ps b behind ≡ true

onto : (s : ViewSort) (vs ps : List Dim) (ks : List ℕ) (b : ℕ) → IsShapeOf s vs ps ks → AllByRecursion IsDim vs → AllByRecursion IsDim ps → b < banks_of vs → Onto s vs ps b
onto Shrink vs ps ks b h own dims below =
    let inside : is_inside ps (indices_of vs b) ≡ true = sym (same_inside vs ps ks (indices_of vs b) h) ∙ digits_inside vs b own below in
    record {
      behind = bank_at ps (indices_of vs b);
      inside = bank_at_below ps (indices_of vs b) dims inside;
      reached = eq-eqb (covering vs ps (bank_at ps (indices_of vs b))) b (covered_element vs ps ks (indices_of vs b) h dims inside ∙ digits_bank vs b own below);
    }
onto Suffix vs ps ks b h own dims below = record {
  behind = b;
  inside = subst (λ (ds : List Dim). b < banks_of ds) (suffix_same vs ps ks h) below;
  reached = eq-eqb b b refl;
}
onto Shift vs ps ks b h own dims below = record { behind = b; inside = subst (λ (ds : List Dim). b < banks_of ds) h.0 below; reached = refl }
onto Split (v ∷ w ∷ []) (p ∷ []) (k ∷ []) b h own dims below = record {
  behind = b;
  inside = subst (λ (n : ℕ). b < n) (split_banks v.banks w.banks p.banks k h.0.1 h.1.1.0) below;
  reached = eq-eqb b b refl;
}
onto Split [] ps ks b h own dims below = absurd h
onto Split (v ∷ []) ps ks b h own dims below = absurd h
onto Split (v ∷ w ∷ (x ∷ vs)) ps ks b h own dims below = absurd h
onto Split (v ∷ w ∷ []) [] ks b h own dims below = absurd h
onto Split (v ∷ w ∷ []) (p ∷ []) [] b h own dims below = absurd h
onto Split (v ∷ w ∷ []) (p ∷ []) (k ∷ (l ∷ ks)) b h own dims below = absurd h
onto Split (v ∷ w ∷ []) (p ∷ (q ∷ ps)) ks b h own dims below = absurd h

-- Views that follow one another.

both_true : (b c : Bool) → b ≡ true → c ≡ true → (b && c) ≡ true
both_true true c e f = f
both_true false c e f = cc

parts_true : (b c : Bool) → (b && c) ≡ true → (b ≡ true) × (c ≡ true)
parts_true true c e = (refl, e)
parts_true false c e = cc

below_found : (n : ℕ) (test : ℕ → Bool) → any_below n test ≡ true → (m : ℕ) × ((m < n) × (test m ≡ true))
below_found zero test e = cc
below_found (suc n) test e = by (any_below n test) refl e (below_found n test)
  where
    more : (m n : ℕ) → m < n → m < suc n
    more m n e = omega (arith, e)

    own : (n : ℕ) → n < suc n
    own n = omega arith

    by : (b : Bool) → any_below n test ≡ b → (b || test n) ≡ true → (any_below n test ≡ true → (m : ℕ) × ((m < n) × (test m ≡ true))) → (m : ℕ) × ((m < suc n) × (test m ≡ true))
    by true f g rest = let at = rest f in (at.0, (more at.0 n at.1.0, at.1.1))
    by false f g rest = (n, (own n, g))

through : (a b c : ℕ) → a ≤ b → b ≤ c → a ≤ c
through a b c e f = omega (arith, e, f)

pub charged_more : (ss : List WayStep) (dims : List Dim) (charge : ℕ → ℕ) (b c : ℕ) → StepsLead ss dims → b < banks_of (next_dims ss dims) → may_reach ss b c ≡ true → charge b ≤ carried_by (map (λ s. s.is) ss) charge c
charged_more [] dims charge b c lead inside r = subst (λ (n : ℕ). charge b ≤ charge n) (eqb-true b c r) (itself (charge b))
charged_more (s ∷ ss) dims charge b c lead inside r =
    let at = below_found (banks_of s.is.parent.dims) (λ m. can_reach s.is b m && may_reach ss m c) r in
    let parts = parts_true (can_reach s.is b at.0) (may_reach ss at.0 c) at.1.1 in
    through (charge b) (carried s.is charge at.0) (carried_by (map (λ s. s.is) ss) (carried s.is charge) c)
    (as_much s.is.sort s.is.shape.dims s.is.parent.dims charge b at.0 parts.0 inside)
    (charged_more ss dims (carried s.is charge) at.0 c lead.1.1 (subst (λ (ds : List Dim). at.0 < banks_of ds) lead.1.0 at.1.0) parts.1)

-- a bank behind the views that may be reached
record Behind (ss : List WayStep) (b : ℕ) : Type 0 where
  pub bank : ℕ
  pub reached : may_reach ss b bank ≡ true

reached_some : (ss : List WayStep) (dims : List Dim) (b : ℕ) → StepsLead ss dims → b < banks_of (next_dims ss dims) → Behind ss b
reached_some [] dims b lead inside = record { bank = b; reached = eq-eqb b b refl }
reached_some (s ∷ ss) dims b lead inside =
    let one = onto s.is.sort s.is.shape.dims s.is.parent.dims s.is.by b lead.0.shape lead.0.own.dims lead.0.parent.dims inside in
    let rest = reached_some ss dims one.behind lead.1.1 (subst (λ (ds : List Dim). one.behind < banks_of ds) lead.1.0 one.inside) in
    record {
      bank = rest.bank;
      reached = any_found (banks_of s.is.parent.dims) one.behind (λ c. can_reach s.is b c && may_reach ss c rest.bank) one.inside (both_true (can_reach s.is b one.behind) (may_reach ss one.behind rest.bank) one.reached rest.reached);
    }

-- behind a shift every bank is
pub charged_everywhere : (ss : List WayStep) (dims : List Dim) (charge : ℕ → ℕ) (b bank : ℕ) → StepsLead ss dims → HasShift (map (λ s. s.is) ss) → b < banks_of (next_dims ss dims) → charge b ≤ carried_by (map (λ s. s.is) ss) charge bank
charged_everywhere ss dims charge b bank lead shift inside =
    let at = reached_some ss dims b lead inside in
    subst (λ (n : ℕ). charge b ≤ n) (evenly (map (λ s. s.is) ss) charge at.bank bank shift) (charged_more ss dims charge b at.bank lead inside at.reached)
