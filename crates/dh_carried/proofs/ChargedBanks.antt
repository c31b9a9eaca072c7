-- A bank behind views is charged exactly where it may be reached from a bank of the named view that is charged: view
-- by view, and then over the groups of copies.
use Rattle.std.proofs.Common.{◌≡◌, ℕ, zero, suc, ◌+◌, ◌*◌, ◌==◌, ◌<◌, ◌≤◌, ◌&&◌, ◌||◌, ◌⊎◌, inl, inr, max, Bool, true, false, List, [], ◌∷◌, length, map, take, refl, sym, ap, subst, ◌∙◌, arith}
use Rattle.std.specs.List.{AllByRecursion, filter}
use Rattle.std.specs.Set.{distinct_count, unique_keys}
use Rattle.std.proofs.lemmas.Bool.{cases_lt, eq-eqb, eqb-true}
use Rattle.dh_tree.specs.declared.tables.Dim.{Dim}
use Rattle.dh_tree.specs.declared.viewing.ViewSort.{ViewSort}
use Rattle.dh_tree.specs.declared.viewing.ViewSort.TheVariants.{Shrink, Split, Suffix, Shift}
use Rattle.dh_tree.specs.Elements.{banks_of}
use Rattle.dh_tree.specs.PlainTrees.{Program}
use Rattle.dh_tree.specs.Shapes.{IsDim}
use Rattle.dh_tree.specs.ViewShapes.{AreDimsOf, AreSplitOf, IsShapeOf}
use Rattle.dh_viewing.proofs.BankDigits.{bank_at_below, digits_inside, indices_of}
use Rattle.dh_viewing.proofs.ViewBanks.{covered_digits, same_inside}
use Rattle.dh_viewing.specs.Carried.{carried, carried_as, carried_by, largest}
use Rattle.dh_viewing.specs.ReachedBanks.{can_reach, covering, is_reached_by_sort}
use Rattle.dh_meaning.specs.Paths.{Path, same_path, IsPathAmong}
use Rattle.dh_meaning.specs.Ways.{WayStep, Way, all_bindings_of}
use Rattle.dh_meets.specs.Charges.{any_below, bank_named, charge_through, groups_of, key_of, keys_in_group, may_reach, paths_of, sum_over}
use Rattle.dh_meets.specs.SourceEvents.{SourceAccess}
use Rattle.dh_ways.specs.Leading.{StepsLead, next_dims}
use Rattle.dh_carried.specs.ReachedThrough.{IsChargedFrom, MayReachAt}
use Rattle.dh_carried.proofs.CarriedKeys.{same_key, same_list, whole_list}
use Rattle.dh_carried.proofs.GroupedKeys.{filtered_has, has_filtered, mapped_has, path_has}
use Rattle.dh_carried.proofs.Pigeons.{Has, has_mapped, has_unique, unique_has}
use Rattle.dh_carried.proofs.WaysReached.{any_found}

absurd : {A : Type 0} → ⊥ → A
absurd e = elim e [ ]

-- One view.

-- a bank of the view that is charged, from which this bank of its parent may be reached
record Back (s : ViewSort) (vs ps : List Dim) (charge : ℕ → ℕ) (c : ℕ) : Type 0 where
  pub named : ℕ
  pub inside : named < banks_of vs
  pub charged : 1 ≤ charge named
  pub reached : is_reached_by_sort s vs ps named c ≡ true

largest_some : (charge : ℕ → ℕ) (n : ℕ) → 1 ≤ largest charge n → (m : ℕ) × ((m < n) × (1 ≤ charge m))
largest_some charge zero e = absurd (none e)
  where
    none : 1 ≤ 0 → ⊥
    none e = omega (arith, e)
largest_some charge (suc n) e = by (cases_lt 0 (charge n)) (largest_some charge n)
  where
    more : (m n : ℕ) → m < n → m < suc n
    more m n e = omega (arith, e)

    own : (n : ℕ) → n < suc n
    own n = omega arith

    before : (a b : ℕ) → b ≤ 0 → 1 ≤ max a b → 1 ≤ a
    before a b f e = grind (arith, f, e)

    some : (a : ℕ) → 0 < a → 1 ≤ a
    some a e = omega (arith, e)

    by : (0 < charge n) ⊎ (charge n ≤ 0) → (1 ≤ largest charge n → (m : ℕ) × ((m < n) × (1 ≤ charge m))) → (m : ℕ) × ((m < suc n) × (1 ≤ charge m))
    by (inl f) rest = (n, (own n, some (charge n) f))
    by (inr f) rest = let at = rest (before (largest charge n) (charge n) f e) in (at.0, (more at.0 n at.1.0, at.1.1))

largest_least : (charge : ℕ → ℕ) (n m : ℕ) → m < n → 1 ≤ charge m → 1 ≤ largest charge n
largest_least charge zero m e some = absurd (none m e)
  where
    none : (m : ℕ) → m < 0 → ⊥
    none m e = omega (arith, e)
largest_least charge (suc n) m e some = by (split m n e) (largest_least charge n m)
  where
    split : (m n : ℕ) → m < suc n → (m < n) ⊎ (m ≡ n)
    split m n e = grind (arith, e)

    left : (a b : ℕ) → 1 ≤ a → 1 ≤ max a b
    left a b e = grind (arith, e)

    right : (a b : ℕ) → 1 ≤ b → 1 ≤ max a b
    right a b e = grind (arith, e)

    by : (m < n) ⊎ (m ≡ n) → (m < n → 1 ≤ charge m → 1 ≤ largest charge n) → 1 ≤ max (largest charge n) (charge n)
    by (inl f) rest = left (largest charge n) (charge n) (rest f some)
    by (inr f) rest = right (largest charge n) (charge n) (subst (λ (x : ℕ). 1 ≤ charge x) f some)

-- suffixes have the dimensions of their parents
suffix_same : (vs ps : List Dim) (ks : List ℕ) → AreDimsOf Suffix vs ps ks → vs ≡ ps
suffix_same [] [] [] h = refl
suffix_same [] [] (k ∷ ks) h = absurd h
suffix_same [] (p ∷ ps) ks h = absurd h
suffix_same (v ∷ vs) [] ks h = absurd h
suffix_same (v ∷ vs) (p ∷ ps) [] h = absurd h
suffix_same (v ∷ vs) (p ∷ ps) (k ∷ ks) h = ap (λ d. d ∷ vs) h.0.0 ∙ ap (λ ds. p ∷ ds) (suffix_same vs ps ks h.1)

-- splits have the banks of their parents
split_banks : (a w b k : ℕ) → a ≡ k → w * k ≡ b → a * (w * 1) ≡ b * 1
split_banks a w b k e f = ap (λ n. n * (w * 1)) e ∙ (swapped k w ∙ ap (λ n. n * 1) f)
  where
    swapped : (k w : ℕ) → k * (w * 1) ≡ w * k * 1
    swapped k w = omega arith

back : (s : ViewSort) (vs ps : List Dim) (ks : List ℕ) (charge : ℕ → ℕ) (c : ℕ) → IsShapeOf s vs ps ks → AllByRecursion IsDim vs → AllByRecursion IsDim ps → c < banks_of ps → 1 ≤ carried_as s vs ps charge c → Back s vs ps charge c
back Shrink vs ps ks charge c h own dims below some = record {
  named = covering vs ps c;
  inside = subst (λ (n : ℕ). n < banks_of vs) (covered_digits vs ps ks c h) (bank_at_below vs (indices_of ps c) own (same_inside vs ps ks (indices_of ps c) h ∙ digits_inside ps c dims below));
  charged = some;
  reached = eq-eqb (covering vs ps c) (covering vs ps c) refl;
}
back Suffix vs ps ks charge c h own dims below some = record {
  named = c;
  inside = subst (λ (ds : List Dim). c < banks_of ds) (sym (suffix_same vs ps ks h)) below;
  charged = some;
  reached = eq-eqb c c refl;
}
back Shift vs ps ks charge c h own dims below some =
    let at = largest_some charge (banks_of vs) some in
    record { named = at.0; inside = at.1.0; charged = at.1.1; reached = refl }
back Split (v ∷ w ∷ []) (p ∷ []) (k ∷ []) charge c h own dims below some = record {
  named = c;
  inside = subst (λ (n : ℕ). c < n) (sym (split_banks v.banks w.banks p.banks k h.0.1 h.1.1.0)) below;
  charged = some;
  reached = eq-eqb c c refl;
}
back Split [] ps ks charge c h own dims below some = absurd h
back Split (v ∷ []) ps ks charge c h own dims below some = absurd h
back Split (v ∷ w ∷ (x ∷ vs)) ps ks charge c h own dims below some = absurd h
back Split (v ∷ w ∷ []) [] ks charge c h own dims below some = absurd h
back Split (v ∷ w ∷ []) (p ∷ []) [] charge c h own dims below some = absurd h
back Split (v ∷ w ∷ []) (p ∷ []) (k ∷ (l ∷ ks)) charge c h own dims below some = absurd h
back Split (v ∷ w ∷ []) (p ∷ (q ∷ ps)) ks charge c h own dims below some = absurd h

-- a bank that is reached from one that is charged is charged
forth : (s : ViewSort) (vs ps : List Dim) (charge : ℕ → ℕ) (b c : ℕ) → is_reached_by_sort s vs ps b c ≡ true → b < banks_of vs → 1 ≤ charge b → 1 ≤ carried_as s vs ps charge c
forth Shrink vs ps charge b c r inside some = subst (λ (n : ℕ). 1 ≤ charge n) (sym (eqb-true (covering vs ps c) b r)) some
forth Split vs ps charge b c r inside some = subst (λ (n : ℕ). 1 ≤ charge n) (sym (eqb-true c b r)) some
forth Suffix vs ps charge b c r inside some = subst (λ (n : ℕ). 1 ≤ charge n) (sym (eqb-true c b r)) some
forth Shift vs ps charge b c r inside some = largest_least charge (banks_of vs) b inside some

-- Views that follow one another.

both_true : (b c : Bool) → b ≡ true → c ≡ true → (b && c) ≡ true
both_true true c e f = f
both_true false c e f = cc

parts_true : (b c : Bool) → (b && c) ≡ true → (b ≡ true) × (c ≡ true)
parts_true true c e = (refl, e)
parts_true false c e = cc

below_found : (n : ℕ) (test : ℕ → Bool) → any_below n test ≡ true → (m : ℕ) × ((m < n) × (test m ≡ true))
below_found zero test e = cc
below_found (suc n) test e = by (any_below n test) refl e (below_found n test)
  where
    more : (m n : ℕ) → m < n → m < suc n
    more m n e = omega (arith, e)

    own : (n : ℕ) → n < suc n
    own n = omega arith

    by : (b : Bool) → any_below n test ≡ b → (b || test n) ≡ true → (any_below n test ≡ true → (m : ℕ) × ((m < n) × (test m ≡ true))) → (m : ℕ) × ((m < suc n) × (test m ≡ true))
    by true f g rest = let at = rest f in (at.0, (more at.0 n at.1.0, at.1.1))
    by false f g rest = (n, (own n, g))

pub charged_back : (ss : List WayStep) (dims : List Dim) (charge : ℕ → ℕ) (bank : ℕ) → StepsLead ss dims → bank < banks_of dims → 1 ≤ carried_by (map (λ s. s.is) ss) charge bank → IsChargedFrom ss dims charge bank
charged_back [] dims charge bank lead below some = record { named = bank; inside = below; charged = some; reached = eq-eqb bank bank refl }
charged_back (s ∷ ss) dims charge bank lead below some =
    let behind = charged_back ss dims (carried s.is charge) bank lead.1.1 below some in
    let within : behind.named < banks_of s.is.parent.dims = subst (λ (ds : List Dim). behind.named < banks_of ds) (sym lead.1.0) behind.inside in
    let one = back s.is.sort s.is.shape.dims s.is.parent.dims s.is.by charge behind.named lead.0.shape lead.0.own.dims lead.0.parent.dims within behind.charged in
    record {
      named = one.named;
      inside = one.inside;
      charged = one.charged;
      reached = any_found (banks_of s.is.parent.dims) behind.named (λ c. can_reach s.is one.named c && may_reach ss c bank) within (both_true (can_reach s.is one.named behind.named) (may_reach ss behind.named bank) one.reached behind.reached);
    }

pub charged_forth : (ss : List WayStep) (dims : List Dim) (charge : ℕ → ℕ) (bank b : ℕ) → StepsLead ss dims → b < banks_of (next_dims ss dims) → 1 ≤ charge b → may_reach ss b bank ≡ true → 1 ≤ carried_by (map (λ s. s.is) ss) charge bank
charged_forth [] dims charge bank b lead inside some r = subst (λ (n : ℕ). 1 ≤ charge n) (eqb-true b bank r) some
charged_forth (s ∷ ss) dims charge bank b lead inside some r =
    let at = below_found (banks_of s.is.parent.dims) (λ c. can_reach s.is b c && may_reach ss c bank) r in
    let parts = parts_true (can_reach s.is b at.0) (may_reach ss at.0 bank) at.1.1 in
    charged_forth ss dims (carried s.is charge) bank at.0 lead.1.1 (subst (λ (ds : List Dim). at.0 < banks_of ds) lead.1.0 at.1.0)
    (forth s.is.sort s.is.shape.dims s.is.parent.dims charge b at.0 parts.0 inside some) parts.1

-- what may be reached is a bank behind the views
pub may_below : (ss : List WayStep) (dims : List Dim) (b c : ℕ) → StepsLead ss dims → b < banks_of (next_dims ss dims) → may_reach ss b c ≡ true → c < banks_of dims
may_below [] dims b c lead inside r = subst (λ (n : ℕ). n < banks_of dims) (eqb-true b c r) inside
may_below (s ∷ ss) dims b c lead inside r =
    let at = below_found (banks_of s.is.parent.dims) (λ m. can_reach s.is b m && may_reach ss m c) r in
    may_below ss dims at.0 c lead.1.1 (subst (λ (ds : List Dim). at.0 < banks_of ds) lead.1.0 at.1.0) (parts_true (can_reach s.is b at.0) (may_reach ss at.0 c) at.1.1).1

-- Groups.

sum_some : (gs : List Path) (f : Path → ℕ) → 1 ≤ sum_over gs f → (g : Path) × (Has g gs × (1 ≤ f g))
sum_some [] f e = absurd (none e)
  where
    none : 1 ≤ 0 → ⊥
    none e = omega (arith, e)
sum_some (g ∷ gs) f e = by (cases_lt 0 (f g)) (sum_some gs f)
  where
    some : (a : ℕ) → 0 < a → 1 ≤ a
    some a e = omega (arith, e)

    behind : (a b : ℕ) → a ≤ 0 → 1 ≤ a + b → 1 ≤ b
    behind a b f e = omega (arith, f, e)

    by : (0 < f g) ⊎ (f g ≤ 0) → (1 ≤ sum_over gs f → (h : Path) × (Has h gs × (1 ≤ f h))) → (h : Path) × (((h ≡ g) ⊎ Has h gs) × (1 ≤ f h))
    by (inl x) rest = (g, (inl refl, some (f g) x))
    by (inr x) rest = let at = rest (behind (f g) (sum_over gs f) x e) in (at.0, (inr at.1.0, at.1.1))

sum_least : (gs : List Path) (f : Path → ℕ) (g : Path) → Has g gs → 1 ≤ f g → 1 ≤ sum_over gs f
sum_least [] f g h some = elim h [ ]
sum_least (x ∷ gs) f g (inl e) some = first (f x) (sum_over gs f) (subst (λ (y : Path). 1 ≤ f y) e some)
  where
    first : (a b : ℕ) → 1 ≤ a → 1 ≤ a + b
    first a b e = omega (arith, e)
sum_least (x ∷ gs) f g (inr h) some = later (f x) (sum_over gs f) (sum_least gs f g h some)
  where
    later : (a b : ℕ) → 1 ≤ b → 1 ≤ a + b
    later a b e = omega (arith, e)

long_some : {A : Type 0} (xs : List A) → 1 ≤ length xs → (x : A) × Has x xs
long_some [] e = absurd (none e)
  where
    none : 1 ≤ 0 → ⊥
    none e = omega (arith, e)
long_some (x ∷ xs) e = (x, inl refl)

has_long : {A : Type 0} (x : A) (xs : List A) → Has x xs → 1 ≤ length xs
has_long x [] h = elim h [ ]
has_long x (y ∷ ys) h = some (length ys)
  where
    some : (n : ℕ) → 1 ≤ suc n
    some n = omega arith

has_path : (path : Path) (ps : List Path) → Has path ps → IsPathAmong path ps
has_path path [] h = elim h [ ]
has_path path (p ∷ ps) (inl e) = inl e
has_path path (p ∷ ps) (inr h) = inr (has_path path ps h)

module _ (p : Program) (w : Way) (a : SourceAccess) (dims : List Dim) (bank : ℕ) (lead : StepsLead w.steps dims) where
  pub charged_reaches : bank < banks_of dims → 1 ≤ charge_through p w a bank → MayReachAt p w a bank
  charged_reaches below some =
      let (g, (there, here)) = sum_some (groups_of w a) (λ g. carried_by (map (λ s. s.is) w.steps) (keys_in_group p w a g) bank) some in
      let named = charged_back w.steps dims (keys_in_group p w a g) bank lead below here in
      let keys = map (key_of (all_bindings_of p) a) (filter (λ path. same_path (take w.shifts path) g && (bank_named p w a path == named.named)) (paths_of a)) in
      let (k, among) = long_some (unique_keys same_path keys) named.charged in
      let (path, (at, is)) = mapped_has (key_of (all_bindings_of p) a) k (filter (λ path. same_path (take w.shifts path) g && (bank_named p w a path == named.named)) (paths_of a)) (unique_has same_key same_list whole_list k keys among) in
      let (own, picked) = filtered_has (λ path. same_path (take w.shifts path) g && (bank_named p w a path == named.named)) path (paths_of a) at in
      let bank_is = eqb-true (bank_named p w a path) named.named (parts_true (same_path (take w.shifts path) g) (bank_named p w a path == named.named) picked).1 in
      record { path = path; there = has_path path (paths_of a) own; reached = subst (λ (n : ℕ). may_reach w.steps n bank ≡ true) (sym bank_is) named.reached }

  pub reaching_charges : ((path : Path) → bank_named p w a path < banks_of (next_dims w.steps dims)) → MayReachAt p w a bank → 1 ≤ charge_through p w a bank
  reaching_charges inside r =
      let g = take w.shifts r.path in
      let named = bank_named p w a r.path in
      let own = path_has r.path (paths_of a) r.there in
      let in_groups : Has g (groups_of w a) = has_unique same_key same_list whole_list g (map (λ path. take w.shifts path) (paths_of a)) (has_mapped (λ path. take w.shifts path) r.path (paths_of a) own) in
      let picked = has_filtered (λ path. same_path (take w.shifts path) g && (bank_named p w a path == named)) r.path (paths_of a) own (both_true (same_path g g) (named == named) (whole_list g) (eq-eqb named named refl)) in
      let some : 1 ≤ keys_in_group p w a g named =
      has_long (key_of (all_bindings_of p) a r.path) _
      (has_unique same_key same_list whole_list (key_of (all_bindings_of p) a r.path) (map (key_of (all_bindings_of p) a) (filter (λ path. same_path (take w.shifts path) g && (bank_named p w a path == named)) (paths_of a)))
      (has_mapped (key_of (all_bindings_of p) a) r.path (filter (λ path. same_path (take w.shifts path) g && (bank_named p w a path == named)) (paths_of a)) picked))
      in
      sum_least (groups_of w a) (λ g. carried_by (map (λ s. s.is) w.steps) (keys_in_group p w a g) bank) g in_groups (charged_forth w.steps dims (keys_in_group p w a g) bank named lead (inside r.path) some r.reached)
