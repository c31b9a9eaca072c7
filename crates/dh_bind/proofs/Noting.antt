-- How the tables of costs come about. A listed bank raises the count of its cell, and no other; operations are noted
-- one after the other. At the end the count of a cell is the charge of all operations of its access, and their memory
-- is one, so that it is the charge of the plan.
use Rattle.std.proofs.Common.{◌≡◌, ℕ, suc, zero, ◌+◌, ◌*◌, ◌≤◌, ◌<◌, true, false, Bool, if◌then◌else◌, ◌⊎◌, inl, inr, max, refl, ap, sym, ◌∙◌, subst, arith, List, [], ◌∷◌, ◌++◌, length, take, get_or, Option, Some, None}
use Rattle.std.specs.Prelude.{◌==◌, slice_index, slice_set}
use Rattle.std.specs.List.{AllByRecursion}
use Rattle.std.proofs.lemmas.Bool.{eq-eqb, cases_eq}
use Rattle.std.proofs.lemmas.List.{take_more, length-set, get_or-set_same, get_or-set_other}
use Rattle.dh_plan.specs.declared.operations.Operation.{Operation}
use Rattle.dh_plan.specs.declared.operations.PlanBlock.{PlanBlock}
use Rattle.dh_plan.specs.declared.operations.Reach.{Reach}
use Rattle.dh_plan.specs.SoundPlans.{use_in, place_charge}
use Rattle.dh_bind.specs.Drafts.{all_operations, cell_of, flattened, AllUses}
use Rattle.dh_bind.specs.Costs.{Costs, memory_of_access, raw_use, raw_charge, use_memory, last_memory, Noted, costs_in, Raised, FitsListed, FitsRows}
use Rattle.dh_bind.proofs.Cells.{away}
use Rattle.dh_bind.proofs.Driven.{get_set_same, get_set_other, is_not}
use Rattle.dh_bind.proofs.Flat.{got, uses_in_block}

-- one more listed bank
max_regroup : (a b c : ℕ) → max a (max b c) ≡ max (max a b) c
max_regroup a b c = grind arith

max_none : (a : ℕ) → a ≡ max a 0
max_none a = grind arith

pub one_place : (t : Bool) (x m n : ℕ) → (if t then max x (max m n) else max m n) ≡ max (if t then max x m else m) n
one_place true x m n = max_regroup x m n
one_place false x m n = refl

pub places_joined : (bank : ℕ) (xs ys : List (ℕ × ℕ)) → place_charge bank (xs ++ ys) ≡ max (place_charge bank xs) (place_charge bank ys)
places_joined bank [] ys = none_most (place_charge bank ys)
  where
    none_most : (n : ℕ) → n ≡ max 0 n
    none_most n = grind arith
places_joined bank (b ∷ xs) ys =
    ap (λ (n : ℕ). if b.0 == bank then max (suc b.1) n else n) (places_joined bank xs ys)
    ∙ one_place (b.0 == bank) (suc b.1) (place_charge bank xs) (place_charge bank ys)

own_place : (t : Bool) (n : ℕ) → t ≡ true → (if t then max n 0 else 0) ≡ n
own_place true n e = sym (max_none n)
own_place false n e = absurd (let f : false ≡ true = e in cc)

no_place : (t : Bool) (n : ℕ) → t ≡ false → (if t then max n 0 else 0) ≡ 0
no_place true n e = absurd (let f : true ≡ false = e in cc)
no_place false n e = refl

-- the place of a bank alone
alone_same : (bank : ℕ) (b : ℕ × ℕ) → b.0 ≡ bank → place_charge bank (b ∷ []) ≡ suc b.1
alone_same bank b e = own_place (b.0 == bank) (suc b.1) (eq-eqb b.0 bank e)

alone_other : (bank : ℕ) (b : ℕ × ℕ) → (b.0 ≡ bank → ⊥) → place_charge bank (b ∷ []) ≡ 0
alone_other bank b none = no_place (b.0 == bank) (suc b.1) (is_not b.0 bank none)

raise_same : (n o p q x : ℕ) → n ≡ max (max o p) x → q ≡ x → n ≡ max o (max p q)
raise_same n o p q x e f = grind (arith, e, f)

raise_none : (n o p q : ℕ) → n ≡ max o p → q ≡ 0 → n ≡ max o (max p q)
raise_none n o p q e f = grind (arith, e, f)

pub raise_more : (row wide : ℕ) (bs : List (ℕ × ℕ)) (b : ℕ × ℕ) (old mid : List ℕ) → row + wide ≤ length old → b.0 < wide → Raised row wide bs old mid
    → Raised row wide (bs ++ b ∷ []) old (slice_set mid (row + b.0) (max (slice_index mid (row + b.0)) (b.1 + 1)))
raise_more row wide bs b old mid long few so = record {
  own = λ bank below. elim (cases_eq bank b.0) [
    | inl e ↦ (let s : slice_index (slice_set mid (row + b.0) (max (slice_index mid (row + b.0)) (b.1 + 1))) (row + bank) ≡ max (max (slice_index old (row + bank)) (place_charge bank bs)) (b.1 + 1) =
        ap (λ (k : ℕ). slice_index (slice_set mid (row + b.0) (max (slice_index mid (row + b.0)) (b.1 + 1))) (row + k)) e
        ∙ (get_or-set_same mid (row + b.0) (max (slice_index mid (row + b.0)) (b.1 + 1)) 0 (let c = so.cells in omega (arith, c, long, few))
        ∙ (ap (λ (k : ℕ). max (slice_index mid (row + k)) (b.1 + 1)) (sym e) ∙ ap (λ (n : ℕ). max n (b.1 + 1)) (so.own bank below))) in
        let t : place_charge bank (b ∷ []) ≡ b.1 + 1 = alone_same bank b (sym e) ∙ (let u : suc b.1 ≡ b.1 + 1 = omega arith in u) in
        raise_same _ (slice_index old (row + bank)) (place_charge bank bs) (place_charge bank (b ∷ [])) (b.1 + 1) s t
        ∙ ap (λ (n : ℕ). max (slice_index old (row + bank)) n) (sym (places_joined bank bs (b ∷ []))))
    | inr differs ↦ (let s : slice_index (slice_set mid (row + b.0) (max (slice_index mid (row + b.0)) (b.1 + 1))) (row + bank) ≡ max (slice_index old (row + bank)) (place_charge bank bs) =
        get_or-set_other mid (row + b.0) (row + bank) (max (slice_index mid (row + b.0)) (b.1 + 1)) 0 (λ f. differs (let g = f in omega (arith, g))) ∙ so.own bank below in
        raise_none _ (slice_index old (row + bank)) (place_charge bank bs) (place_charge bank (b ∷ [])) s (alone_other bank b (λ f. differs (sym f)))
        ∙ ap (λ (n : ℕ). max (slice_index old (row + bank)) n) (sym (places_joined bank bs (b ∷ []))))
  ];
  other = λ cell away. get_or-set_other mid (row + b.0) cell (max (slice_index mid (row + b.0)) (b.1 + 1)) 0 (outside wide row b.0 cell few away) ∙ so.other cell away;
  cells = length-set mid (row + b.0) (max (slice_index mid (row + b.0)) (b.1 + 1)) ∙ so.cells;
}
  where
    outside : (w r k cell : ℕ) → k < w → (cell < r) ⊎ (r + w ≤ cell) → cell ≡ r + k → ⊥
    outside w r k cell few (inl h) e = omega (arith, few, h, e)
    outside w r k cell few (inr h) e = omega (arith, few, h, e)

pub raise_none_yet : (row wide : ℕ) (old : List ℕ) → Raised row wide [] old old
raise_none_yet row wide old = record { own = λ bank below. max_none (slice_index old (row + bank)); other = λ cell away. refl; cells = refl }

-- operations one after the other
pub memory_joined : (access : ℕ) (xs ys : List Operation) (m : Option ℕ) → last_memory access (xs ++ ys) m ≡ last_memory access ys (last_memory access xs m)
memory_joined access [] ys m = refl
memory_joined access (o ∷ xs) ys m = memory_joined access xs ys (use_memory access (use_in o.form) m)

pub raw_joined : (access bank : ℕ) (xs ys : List Operation) → raw_charge access bank (xs ++ ys) ≡ max (raw_charge access bank xs) (raw_charge access bank ys)
raw_joined access bank [] ys = none_most (raw_charge access bank ys)
  where
    none_most : (n : ℕ) → n ≡ max 0 n
    none_most n = grind arith
raw_joined access bank (o ∷ xs) ys =
    ap (λ (n : ℕ). max (raw_use access bank (use_in o.form)) n) (raw_joined access bank xs ys)
    ∙ max_regroup (raw_use access bank (use_in o.form)) (raw_charge access bank xs) (raw_charge access bank ys)

pub noted_more : (wide : ℕ) (xs ys : List Operation) (a b c : Costs) → Noted wide xs a b → Noted wide ys b c → Noted wide (xs ++ ys) a c
noted_more wide xs ys a b c x y = record {
  memories = λ access h. y.memories access (let r = x.rows in omega (arith, r, h)) ∙ (ap (λ (m : Option ℕ). last_memory access ys m) (x.memories access h) ∙ sym (memory_joined access xs ys (memory_of_access a.memories access)));
  counts = λ access bank h below.
      y.counts access bank (let r = x.rows in omega (arith, r, h)) below
      ∙ (ap (λ (n : ℕ). max n (raw_charge access bank ys)) (x.counts access bank h below)
      ∙ (sym (max_regroup (slice_index a.counts (cell_of wide access bank)) (raw_charge access bank xs) (raw_charge access bank ys))
      ∙ ap (λ (n : ℕ). max (slice_index a.counts (cell_of wide access bank)) n) (sym (raw_joined access bank xs ys))));
  rows = y.rows ∙ x.rows;
  cells = y.cells ∙ x.cells;
}

pub noted_none : (wide : ℕ) (a : Costs) → Noted wide [] a a
noted_none wide a = record { memories = λ access h. refl; counts = λ access bank h below. max_none (slice_index a.counts (cell_of wide access bank)); rows = refl; cells = refl }

pub noted_turn : (wide : ℕ) (os : List Operation) (i : ℕ) (o : Operation) (a b c : Costs) → i < length os → o ≡ get_or os i o → Noted wide (take i os) a b → Noted wide (o ∷ []) b c → Noted wide (take (i + 1) os) a c
noted_turn wide os i o a b c h e x y =
    subst (λ (l : List Operation). Noted wide l a c) (sym (take_more os i o h ∙ ap (λ (p : Operation). take i os ++ p ∷ []) (sym e))) (noted_more wide (take i os) (o ∷ []) a b c x y)

all_operations_joined : (xs ys : List PlanBlock) → all_operations (xs ++ ys) ≡ all_operations xs ++ all_operations ys
all_operations_joined [] ys = refl
all_operations_joined (p ∷ xs) ys = ap (λ (l : List Operation). p.operations ++ l) (all_operations_joined xs ys) ∙ sym (regroup p.operations (all_operations xs) (all_operations ys))
  where
    regroup : (a b c : List Operation) → (a ++ b) ++ c ≡ a ++ (b ++ c)
    regroup [] b c = refl
    regroup (x ∷ a) b c = ap (λ (l : List Operation). x ∷ l) (regroup a b c)

nothing_behind : (l : List Operation) → l ++ [] ≡ l
nothing_behind [] = refl
nothing_behind (x ∷ l) = ap (λ (m : List Operation). x ∷ m) (nothing_behind l)

pub noted_block : (wide : ℕ) (bs : List PlanBlock) (i : ℕ) (p : PlanBlock) (os : List Operation) (a b c : Costs) → i < length bs → p ≡ get_or bs i p → os ≡ p.operations
    → Noted wide (all_operations (take i bs)) a b → Noted wide os b c → Noted wide (all_operations (take (i + 1) bs)) a c
noted_block wide bs i p os a b c h e f x y =
    let more : all_operations (take (i + 1) bs) ≡ all_operations (take i bs) ++ os =
    ap (λ (l : List PlanBlock). all_operations l) (take_more bs i p h ∙ ap (λ (q : PlanBlock). take i bs ++ q ∷ []) (sym e))
    ∙ (all_operations_joined (take i bs) (p ∷ []) ∙ ap (λ (l : List Operation). all_operations (take i bs) ++ l) (nothing_behind p.operations ∙ sym f)) in
    subst (λ (l : List Operation). Noted wide l a c) (sym more) (noted_more wide (all_operations (take i bs)) os a b c x y)

-- one operation
pub noted_unused : (wide : ℕ) (o : Operation) (a : Costs) → None ≡ use_in o.form → Noted wide (o ∷ []) a a
noted_unused wide o a e = record {
  memories = λ access h. ap (λ (u : Option Reach). use_memory access u (memory_of_access a.memories access)) e;
  counts = λ access bank h below. max_none (slice_index a.counts (cell_of wide access bank)) ∙ ap (λ (n : ℕ). max (slice_index a.counts (cell_of wide access bank)) n) (max_none 0 ∙ ap (λ (u : Option Reach). max (raw_use access bank u) 0) e);
  rows = refl;
  cells = refl;
}

pub memory_of_use : (r : Reach) (memories : List (Option ℕ)) (access : ℕ) → r.access < length memories → memory_of_access (slice_set memories r.access (Some r.memory)) access ≡ use_memory access (Some r) (memory_of_access memories access)
memory_of_use r memories access inside = elim (cases_eq access r.access) [
  | inl e ↦ ap (λ (k : ℕ). memory_of_access (slice_set memories r.access (Some r.memory)) k) e ∙ (ap flattened (get_set_same memories r.access (Some r.memory) inside)
      ∙ sym (ap (λ (t : Bool). if t then Some r.memory else memory_of_access memories access) (eq-eqb r.access access (sym e))))
  | inr differs ↦ ap flattened (get_set_other memories r.access access (Some r.memory) differs)
      ∙ sym (ap (λ (t : Bool). if t then Some r.memory else memory_of_access memories access) (is_not r.access access (λ f. differs (sym f))))
]

own_one : (t : Bool) (n : ℕ) → t ≡ true → n ≡ max (if t then n else 0) 0
own_one true n f = max_none n
own_one false n f = absurd (let g : false ≡ true = f in cc)

other_one : (t : Bool) (n : ℕ) → t ≡ false → 0 ≡ max (if t then n else 0) 0
other_one true n f = absurd (let g : true ≡ false = f in cc)
other_one false n f = max_none 0

count_of_use : (wide : ℕ) (r : Reach) (counts next : List ℕ) → Raised (r.access * wide) wide r.banks counts next → (access bank : ℕ) → bank < wide
    → slice_index next (cell_of wide access bank) ≡ max (slice_index counts (cell_of wide access bank)) (max (raw_use access bank (Some r)) 0)
count_of_use wide r counts next so access bank below = elim (cases_eq access r.access) [
  | inl e ↦ ap (λ (k : ℕ). slice_index next (cell_of wide k bank)) e
      ∙ (so.own bank below
      ∙ (ap (λ (n : ℕ). max (slice_index counts (r.access * wide + bank)) n) (own_one (r.access == access) (place_charge bank r.banks) (eq-eqb r.access access (sym e)))
      ∙ ap (λ (k : ℕ). max (slice_index counts (cell_of wide k bank)) (max (raw_use access bank (Some r)) 0)) (sym e)))
  | inr differs ↦ so.other (cell_of wide access bank) (away wide r.access access bank below differs)
      ∙ (max_none (slice_index counts (cell_of wide access bank))
      ∙ ap (λ (n : ℕ). max (slice_index counts (cell_of wide access bank)) n) (other_one (r.access == access) (place_charge bank r.banks) (is_not r.access access (λ f. differs (sym f)))))
]

pub noted_used : (wide : ℕ) (o : Operation) (r : Reach) (memories : List (Option ℕ)) (counts next : List ℕ) → Some r ≡ use_in o.form → r.access < length memories → Raised (r.access * wide) wide r.banks counts next
    → Noted wide (o ∷ []) (costs_in wide memories counts) (costs_in wide (slice_set memories r.access (Some r.memory)) next)
noted_used wide o r memories counts next e inside so = record {
  memories = λ access h. memory_of_use r memories access inside ∙ ap (λ (u : Option Reach). use_memory access u (memory_of_access memories access)) e;
  counts = λ access bank h below. count_of_use wide r counts next so access bank below ∙ ap (λ (u : Option Reach). max (slice_index counts (cell_of wide access bank)) (max (raw_use access bank u) 0)) e;
  rows = length-set memories r.access (Some r.memory);
  cells = so.cells;
}

-- one turn over the listed banks
pub all_get : {A : Type 0} (P : A → Type 0) (xs : List A) (i : ℕ) (d : A) → AllByRecursion P xs → i < length xs → P (get_or xs i d)
all_get P [] i d all h = absurd (let k = h in omega (arith, k))
all_get P (x ∷ xs) zero d all h = all.0
all_get P (x ∷ xs) (suc i) d all h = all_get P xs i d all.1 (let k = h in omega (arith, k))

raise_one : (row wide : ℕ) (bs : List (ℕ × ℕ)) (i : ℕ) (old mid : List ℕ) (n : ℕ) → i < length bs → row + wide ≤ length old → AllByRecursion (FitsListed wide) bs → Raised row wide (take i bs) old mid
    → n ≡ max (slice_index mid (row + (get_or bs i (0, 0)).0)) ((get_or bs i (0, 0)).1 + 1)
    → Raised row wide (take (i + 1) bs) old (slice_set mid (row + (get_or bs i (0, 0)).0) n)
raise_one row wide bs i old mid n h long fit so e =
    let next = raise_more row wide (take i bs) (get_or bs i (0, 0)) old mid long (all_get (FitsListed wide) bs i (0, 0) fit h).0 so in
    subst (λ (k : ℕ). Raised row wide (take (i + 1) bs) old (slice_set mid (row + (get_or bs i (0, 0)).0) k)) (sym e)
    (subst (λ (l : List (ℕ × ℕ)). Raised row wide l old (slice_set mid (row + (get_or bs i (0, 0)).0) (max (slice_index mid (row + (get_or bs i (0, 0)).0)) ((get_or bs i (0, 0)).1 + 1)))) (sym (take_more bs i (0, 0) h)) next)

-- where the banks are read from a slice, and the row's place was computed
pub raise_turn : (row wide place : ℕ) (bs ls : List (ℕ × ℕ)) (i : ℕ) (old mid : List ℕ) (n : ℕ) → ls ≡ bs → place ≡ row → i < length ls → row + wide ≤ length old → AllByRecursion (FitsListed wide) bs → Raised row wide (take i bs) old mid
    → n ≡ max (slice_index mid (place + (get_or ls i (0, 0)).0)) ((get_or ls i (0, 0)).1 + 1)
    → Raised row wide (take (i + 1) bs) old (slice_set mid (place + (get_or ls i (0, 0)).0) n)
raise_turn row wide place bs ls i old mid n same at h long fit so e =
    subst (λ (k : ℕ). Raised row wide (take (i + 1) bs) old (slice_set mid (k + (get_or ls i (0, 0)).0) n)) (sym at)
    (subst (λ (l : List (ℕ × ℕ)). Raised row wide (take (i + 1) bs) old (slice_set mid (row + (get_or l i (0, 0)).0) n)) (sym same)
    (raise_one row wide bs i old mid n (subst (λ (l : List (ℕ × ℕ)). i < length l) same h) long fit so
    (e ∙ (ap (λ (k : ℕ). max (slice_index mid (k + (get_or ls i (0, 0)).0)) ((get_or ls i (0, 0)).1 + 1)) at
    ∙ ap (λ (l : List (ℕ × ℕ)). max (slice_index mid (row + (get_or l i (0, 0)).0)) ((get_or l i (0, 0)).1 + 1)) same))))

-- what one turn over blocks needs
pub fits_block : (m n wide : ℕ) → n ≡ m → (bs : List PlanBlock) → AllUses (FitsRows m wide) (all_operations bs) → (i : ℕ) (p : PlanBlock) → i < length bs → p ≡ get_or bs i p → (os : List Operation) → os ≡ p.operations
    → AllUses (FitsRows n wide) os
fits_block m n wide e bs all i p h f os g =
    subst (λ (k : ℕ). AllUses (FitsRows k wide) os) (sym e) (subst (λ (l : List Operation). AllUses (FitsRows m wide) l) (sym g) (uses_in_block (FitsRows m wide) bs i p (got bs i p h f) all))
