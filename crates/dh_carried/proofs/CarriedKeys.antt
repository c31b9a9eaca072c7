-- What copies reach is within what is carried: sort by sort, and then behind all views.
use Rattle.std.proofs.Common.{◌≡◌, ℕ, zero, suc, ◌+◌, ◌<◌, ◌≤◌, ◌==◌, ◌&&◌, max, ◌⊎◌, inl, inr, nat_eq, Bool, true, false, if◌then◌else◌, List, [], ◌∷◌, length, map, refl, sym, ap, subst, ◌∙◌, arith}
use Rattle.std.specs.Cmp.Lexicographic.{pointwise}
use Rattle.std.specs.List.{filter}
use Rattle.std.specs.Set.{distinct_count, unique_keys}
use Rattle.std.proofs.lemmas.Bool.{eqb-true, eq-eqb, cases_lt}
use Rattle.std.proofs.lemmas.Bool.Decides.{nat_tests}
use Rattle.std.proofs.lemmas.Cmp.{nat_list_eq_equiv}
use Rattle.dh_tree.specs.declared.tables.Dim.{Dim}
use Rattle.dh_tree.specs.Elements.{banks_of}
use Rattle.dh_tree.specs.declared.viewing.ViewMap.{ViewMap}
use Rattle.dh_tree.specs.declared.viewing.ViewSort.{ViewSort}
use Rattle.dh_tree.specs.declared.viewing.ViewSort.TheVariants.{Shrink, Split, Suffix, Shift}
use Rattle.dh_viewing.specs.ReachedBanks.{covering}
use Rattle.dh_viewing.specs.Carried.{Copy, bank_in, keys_at, Among, Goes, Leads, AllLead, largest, carried_as, carried, carried_by, HasShift}
use Rattle.dh_carried.proofs.Pigeons.{Has, NoTwice, no_longer, unique_has, has_unique, unique_once}

-- Keys.

abbrev pub same_key : List ℕ → List ℕ → Bool
same_key = pointwise nat_eq

same_number : (a b : ℕ) → nat_eq a b ≡ true → a ≡ b
same_number a b e = grind (arith, nat_tests)

left_true : (a b : Bool) → (a && b) ≡ true → a ≡ true
left_true true b e = refl
left_true false b e = cc

right_true : (a b : Bool) → (a && b) ≡ true → b ≡ true
right_true true b e = e
right_true false b e = cc

pub same_list : (a b : List ℕ) → same_key a b ≡ true → a ≡ b
same_list [] [] e = refl
same_list [] (y ∷ ys) e = cc
same_list (x ∷ xs) [] e = cc
same_list (x ∷ xs) (y ∷ ys) e =
    let h = same_number x y (left_true (nat_eq x y) (same_key xs ys) e) in
    let t = same_list xs ys (right_true (nat_eq x y) (same_key xs ys) e) in
    cc

pub whole_list : (a : List ℕ) → same_key a a ≡ true
whole_list a = nat_list_eq_equiv.refl a

-- what all have, others have too
pub fewer_keys : (ks ls : List (List ℕ)) → ((k : List ℕ) → Has k ks → Has k ls) → distinct_count same_key ks ≤ distinct_count same_key ls
fewer_keys ks ls all =
    no_longer (unique_keys same_key ks) (unique_keys same_key ls) (unique_once same_key same_list whole_list ks)
    (λ k h. has_unique same_key same_list whole_list k ls (all k (unique_has same_key same_list whole_list k ks h)))

-- the key of a copy that a test picks
pub record Picked (test : Copy → Bool) (cs : List Copy) (k : List ℕ) : Type 0 where
  pub copy : Copy
  pub there : Among copy cs
  pub picked : test copy ≡ true
  pub is : k ≡ copy.key

picked_of : (test : Copy → Bool) (cs : List Copy) (k : List ℕ) → Has k (map (λ c. c.key) (filter test cs)) → Picked test cs k
picked_of test [] k h = elim h [ ]
picked_of test (c ∷ cs) k h = by (test c) refl (picked_of test cs k) h
  where
    later : Picked test cs k → Picked test (c ∷ cs) k
    later p = record { copy = p.copy; there = inr p.there; picked = p.picked; is = p.is }

    by : (b : Bool) → test c ≡ b → (Has k (map (λ c. c.key) (filter test cs)) → Picked test cs k) → Has k (map (λ c. c.key) (if b then c ∷ filter test cs else filter test cs)) → Picked test (c ∷ cs) k
    by true e rest (inl is) = record { copy = c; there = inl refl; picked = e; is = is }
    by true e rest (inr more) = later (rest more)
    by false e rest h = later (rest h)

has_picked : (test : Copy → Bool) (cs : List Copy) (c : Copy) → Among c cs → test c ≡ true → Has c.key (map (λ c. c.key) (filter test cs))
has_picked test [] c h e = elim h [ ]
has_picked test (o ∷ cs) c h e = by (test o) refl (has_picked test cs c) h
  where
    by : (b : Bool) → test o ≡ b → (Among c cs → test c ≡ true → Has c.key (map (λ c. c.key) (filter test cs))) → (c ≡ o) ⊎ Among c cs → Has c.key (map (λ c. c.key) (if b then o ∷ filter test cs else filter test cs))
    by true f rest (inl is) = inl (ap (λ (x : Copy). x.key) is)
    by true f rest (inr more) = inr (rest more e)
    by false f rest (inl is) = absurd (let g = sym f ∙ (ap test (sym is) ∙ e) in wrong g)
      where
        wrong : false ≡ true → ⊥
        wrong g = cc
    by false f rest (inr more) = rest more e

fewer : (p q : Copy → Bool) (cs : List Copy) → ((c : Copy) → Among c cs → p c ≡ true → q c ≡ true)
    → distinct_count same_key (map (λ c. c.key) (filter p cs)) ≤ distinct_count same_key (map (λ c. c.key) (filter q cs))
fewer p q cs so =
    fewer_keys (map (λ c. c.key) (filter p cs)) (map (λ c. c.key) (filter q cs))
    (λ k h. let f = picked_of p cs k h in subst (λ (l : List ℕ). Has l (map (λ c. c.key) (filter q cs))) (sym f.is) (has_picked q cs f.copy f.there (so f.copy f.there f.picked)))

-- One view.

pub told : (m n : ℕ) → (m == n) ≡ true → m ≡ n
told m n e = eqb-true m n e

largest_of : (charge : ℕ → ℕ) (banks b : ℕ) → b < banks → charge b ≤ largest charge banks
largest_of charge zero b l = absurd (omega (arith, l))
largest_of charge (suc n) b l = elim (cases_lt b n) [
  | inl less ↦ (let r = largest_of charge n b less in at_most (charge b) (largest charge n) (charge n) r)
  | inr more ↦ (let e : b ≡ n = omega (arith, l, more) in subst (λ (x : ℕ). charge x ≤ max (largest charge n) (charge n)) (sym e) (last (largest charge n) (charge n)))
]
  where
    at_most : (x y z : ℕ) → x ≤ y → x ≤ max y z
    at_most x y z h = grind arith

    last : (y z : ℕ) → z ≤ max y z
    last y z = grind arith

-- some copy lies there, or none does
some_there : (test : Copy → Bool) (cs : List Copy) → ((c : Copy) × (Among c cs × (test c ≡ true))) ⊎ ((c : Copy) → Among c cs → test c ≡ true → ⊥)
some_there test [] = inr (λ c h e. h)
some_there test (o ∷ cs) = by (test o) refl (some_there test cs)
  where
    later : (c : Copy) × (Among c cs × (test c ≡ true)) → (c : Copy) × (Among c (o ∷ cs) × (test c ≡ true))
    later (c, (h, e)) = (c, (inr h, e))

    none : test o ≡ false → ((c : Copy) → Among c cs → test c ≡ true → ⊥) → (c : Copy) → (c ≡ o) ⊎ Among c cs → test c ≡ true → ⊥
    none f rest c (inl is) e = wrong (sym f ∙ (ap test (sym is) ∙ e))
      where
        wrong : false ≡ true → ⊥
        wrong g = cc
    none f rest c (inr h) e = rest c h e

    by : (b : Bool) → test o ≡ b → ((c : Copy) × (Among c cs × (test c ≡ true))) ⊎ ((c : Copy) → Among c cs → test c ≡ true → ⊥) → ((c : Copy) × (Among c (o ∷ cs) × (test c ≡ true))) ⊎ ((c : Copy) → Among c (o ∷ cs) → test c ≡ true → ⊥)
    by true f rest = inl (o, (inl refl, f))
    by false f (inl more) = inl (later more)
    by false f (inr rest) = inr (none f rest)

one_view : (s : ViewSort) (view parent : List Dim) (cs : List Copy) (level : ℕ) → Goes s view parent (λ c. Among c cs) (bank_in level) (bank_in (suc level))
    → (bank : ℕ) → keys_at cs (suc level) bank ≤ carried_as s view parent (keys_at cs level) bank
one_view Shrink view parent cs level goes bank =
    fewer (λ c. bank_in (suc level) c == bank) (λ c. bank_in level c == covering view parent bank) cs
    (λ c h e. eq-eqb (bank_in level c) (covering view parent bank) (goes c h ∙ ap (λ n. covering view parent n) (told (bank_in (suc level) c) bank e)))
one_view Split view parent cs level goes bank =
    fewer (λ c. bank_in (suc level) c == bank) (λ c. bank_in level c == bank) cs (λ c h e. eq-eqb (bank_in level c) bank (goes c h ∙ told (bank_in (suc level) c) bank e))
one_view Suffix view parent cs level goes bank =
    fewer (λ c. bank_in (suc level) c == bank) (λ c. bank_in level c == bank) cs (λ c h e. eq-eqb (bank_in level c) bank (goes c h ∙ told (bank_in (suc level) c) bank e))
one_view Shift view parent cs level goes bank = by (some_there (λ c. bank_in (suc level) c == bank) cs)
  where
    below : (n : ℕ) → n ≤ 0 → n ≤ largest (keys_at cs level) (banks_of view)
    below n l = omega (arith, l)

    by : ((c : Copy) × (Among c cs × ((bank_in (suc level) c == bank) ≡ true))) ⊎ ((c : Copy) → Among c cs → (bank_in (suc level) c == bank) ≡ true → ⊥)
        → keys_at cs (suc level) bank ≤ largest (keys_at cs level) (banks_of view)
    by (inl (o, (h, e))) =
        let one = fewer (λ c. bank_in (suc level) c == bank) (λ c. bank_in level c == bank_in level o) cs
        (λ c k f. eq-eqb (bank_in level c) (bank_in level o) (goes.1 c o k h (told (bank_in (suc level) c) bank f ∙ sym (told (bank_in (suc level) o) bank e)))) in
        let all = largest_of (keys_at cs level) (banks_of view) (bank_in level o) (goes.0 o h) in
        omega (arith, one, all)
    by (inr none) =
        let few = fewer (λ c. bank_in (suc level) c == bank) (λ c. false) cs (λ c h e. elim (none c h e) [ ]) in
        let zero_is = nothing cs in
        below (keys_at cs (suc level) bank) (omega (arith, few, zero_is))
      where
        nothing : (cs : List Copy) → distinct_count same_key (map (λ c. c.key) (filter (λ c. false) cs)) ≤ 0
        nothing [] = omega arith
        nothing (c ∷ cs) = nothing cs

-- All views.

largest_more : (f g : ℕ → ℕ) (banks : ℕ) → ((b : ℕ) → f b ≤ g b) → largest f banks ≤ largest g banks
largest_more f g zero h = omega arith
largest_more f g (suc n) h = both (largest f n) (largest g n) (f n) (g n) (largest_more f g n h) (h n)
  where
    both : (a b c e : ℕ) → a ≤ b → c ≤ e → max a c ≤ max b e
    both a b c e l m = grind arith

carried_more : (s : ViewSort) (view parent : List Dim) (f g : ℕ → ℕ) → ((b : ℕ) → f b ≤ g b) → (bank : ℕ) → carried_as s view parent f bank ≤ carried_as s view parent g bank
carried_more Shrink view parent f g h bank = h (covering view parent bank)
carried_more Split view parent f g h bank = h bank
carried_more Suffix view parent f g h bank = h bank
carried_more Shift view parent f g h bank = largest_more f g (banks_of view) h

pub all_more : (vs : List ViewMap) (f g : ℕ → ℕ) → ((b : ℕ) → f b ≤ g b) → (bank : ℕ) → carried_by vs f bank ≤ carried_by vs g bank
all_more [] f g h bank = h bank
all_more (v ∷ vs) f g h bank = all_more vs (carried v f) (carried v g) (carried_more v.sort v.shape.dims v.parent.dims f g h) bank

pub covers : (vs : List ViewMap) (cs : List Copy) (level : ℕ) → AllLead vs cs level → (bank : ℕ) → keys_at cs (level + length vs) bank ≤ carried_by vs (keys_at cs level) bank
covers [] cs level h bank = subst (λ (n : ℕ). keys_at cs n bank ≤ keys_at cs level bank) (plain level) (same (keys_at cs level bank))
  where
    plain : (n : ℕ) → n ≡ n + 0
    plain n = omega arith

    same : (n : ℕ) → n ≤ n
    same n = omega arith
covers (v ∷ vs) cs level h bank =
    let rest = covers vs cs (suc level) h.1 bank in
    let more = all_more vs (keys_at cs (suc level)) (carried v (keys_at cs level)) (one_view v.sort v.shape.dims v.parent.dims cs level h.0) bank in
    subst (λ (n : ℕ). keys_at cs n bank ≤ carried_by vs (carried v (keys_at cs level)) bank) (moved level (length vs)) (omega (arith, rest, more))
  where
    moved : (m n : ℕ) → suc m + n ≡ m + suc n
    moved m n = omega arith

-- Shifts.

same_largest : (f g : ℕ → ℕ) → ((b : ℕ) → f b ≡ g b) → (n : ℕ) → largest f n ≡ largest g n
same_largest f g h zero = refl
same_largest f g h (suc n) = ap (λ x. max x (f n)) (same_largest f g h n) ∙ ap (λ x. max (largest g n) x) (h n)

-- a charge that is one for all banks stays so
stays_even : (s : ViewSort) (view parent : List Dim) (f : ℕ → ℕ) → ((a b : ℕ) → f a ≡ f b) → (a b : ℕ) → carried_as s view parent f a ≡ carried_as s view parent f b
stays_even Shrink view parent f h a b = h (covering view parent a) (covering view parent b)
stays_even Split view parent f h a b = h a b
stays_even Suffix view parent f h a b = h a b
stays_even Shift view parent f h a b = refl

all_even : (vs : List ViewMap) (f : ℕ → ℕ) → ((a b : ℕ) → f a ≡ f b) → (a b : ℕ) → carried_by vs f a ≡ carried_by vs f b
all_even [] f h a b = h a b
all_even (v ∷ vs) f h a b = all_even vs (carried v f) (stays_even v.sort v.shape.dims v.parent.dims f h) a b

one_even : (s : ViewSort) (view parent : List Dim) (f : ℕ → ℕ) → s ≡ Shift → (a b : ℕ) → carried_as s view parent f a ≡ carried_as s view parent f b
one_even Shift view parent f e a b = refl
one_even Shrink view parent f e a b = cc
one_even Split view parent f e a b = cc
one_even Suffix view parent f e a b = cc

pub evenly : (vs : List ViewMap) (charge : ℕ → ℕ) (bank other : ℕ) → HasShift vs → carried_by vs charge bank ≡ carried_by vs charge other
evenly [] charge bank other h = absurd h
evenly (v ∷ vs) charge bank other (inl is) = all_even vs (carried v charge) (one_even v.sort v.shape.dims v.parent.dims charge is) bank other
evenly (v ∷ vs) charge bank other (inr more) = evenly vs (carried v charge) bank other more
