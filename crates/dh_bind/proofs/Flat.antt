-- The operations of all blocks as one list: that of a block stands at the number of the block's first and its place,
-- and each of the list is of a block.
use Rattle.std.proofs.Common.{◌≡◌, ℕ, suc, zero, ◌+◌, ◌≤◌, ◌<◌, ◌⊎◌, inl, inr, max, refl, ap, sym, ◌∙◌, subst, arith, List, [], ◌∷◌, ◌++◌, length, drop, get_or, Option, Some, None}
use Rattle.std.specs.Prelude.{slice_get}
use Rattle.std.proofs.lemmas.List.{drop_more}
use Rattle.std.proofs.lemmas.Option.{slice_get_read}
use Rattle.std.proofs.Math.Nat.{le-max_left, le-max_right}
use Rattle.dh_plan.specs.declared.operations.Operation.{Operation}
use Rattle.dh_plan.specs.declared.operations.PlanBlock.{PlanBlock}
use Rattle.dh_plan.specs.declared.operations.Reach.{Reach}
use Rattle.dh_plan.specs.PlainPlans.{PlainPlan, operations_before, first_in, block_operations}
use Rattle.dh_plan.specs.SoundPlans.{use_in, HasUse}
use Rattle.dh_bind.specs.Drafts.{all_operations, use_rows, operations_rows, AllUses, UsedBy}

-- elements of joined lists
pub get_left : {A : Type 0} (xs ys : List A) (i : ℕ) (x : A) → slice_get xs i ≡ Some x → slice_get (xs ++ ys) i ≡ Some x
get_left [] ys i x e = absurd (let f : None ≡ Some x = e in cc)
get_left (y ∷ xs) ys zero x e = e
get_left (y ∷ xs) ys (suc i) x e = get_left xs ys i x e

pub get_right : {A : Type 0} (xs ys : List A) (i n : ℕ) → n ≡ length xs + i → slice_get (xs ++ ys) n ≡ slice_get ys i
get_right [] ys i n e = ap (λ (k : ℕ). slice_get ys k) (let f : n ≡ i = omega (arith, e) in f)
get_right (y ∷ xs) ys i zero e = absurd (let h = e in omega (arith, h))
get_right (y ∷ xs) ys i (suc n) e = get_right xs ys i n (let h = e in omega (arith, h))

-- the operation of a block, in the list of all
pub in_all : (bs : List PlanBlock) (b i : ℕ) (o : Operation) → slice_get (block_operations (slice_get bs b)) i ≡ Some o → slice_get (all_operations bs) (operations_before bs b + i) ≡ Some o
in_all [] b i o e = absurd (let f : None ≡ Some o = e in cc)
in_all (p ∷ bs) zero i o e = subst (λ (k : ℕ). slice_get (p.operations ++ all_operations bs) k ≡ Some o) (let f : i ≡ 0 + i = omega arith in f) (get_left p.operations (all_operations bs) i o e)
in_all (p ∷ bs) (suc b) i o e = get_right p.operations (all_operations bs) (operations_before bs b + i) (length p.operations + operations_before bs b + i) (omega arith) ∙ in_all bs b i o e

pub long_all : (bs : List PlanBlock) → length (all_operations bs) ≡ operations_before bs (length bs)
long_all [] = refl
long_all (p ∷ bs) = joined p.operations (all_operations bs) ∙ ap (λ (n : ℕ). length p.operations + n) (long_all bs)
  where
    joined : (xs ys : List Operation) → length (xs ++ ys) ≡ length xs + length ys
    joined [] ys = let f : length ys ≡ 0 + length ys = omega arith in f
    joined (x ∷ xs) ys = let f = joined xs ys in omega (arith, f)

-- a use has a row
pub rows_among : (os : List Operation) (i : ℕ) (o : Operation) → slice_get os i ≡ Some o → use_rows (use_in o.form) ≤ operations_rows os
rows_among [] i o e = absurd (let f : None ≡ Some o = e in cc)
rows_among (p ∷ os) zero o e =
    subst (λ (q : Operation). use_rows (use_in q.form) ≤ operations_rows (p ∷ os)) (let f : p ≡ o = (let g : Some p ≡ Some o = e in cc) in f) (le-max_left (use_rows (use_in p.form)) (operations_rows os))
rows_among (p ∷ os) (suc i) o e =
    let h = rows_among os i o e in
    let k = le-max_right (use_rows (use_in p.form)) (operations_rows os) in
    omega (arith, h, k)

pub use_in_all : (plan : PlainPlan) (b i : ℕ) (r : Reach) (h : HasUse plan b i r) → slice_get (all_operations plan.blocks) (first_in plan b + i) ≡ Some h.operation
use_in_all plan b i r h = in_all plan.blocks b i h.operation h.there

pub use_has_row : (plan : PlainPlan) (b i : ℕ) (r : Reach) → HasUse plan b i r → r.access < operations_rows (all_operations plan.blocks)
use_has_row plan b i r h =
    let k = rows_among (all_operations plan.blocks) (first_in plan b + i) h.operation (use_in_all plan b i r h) in
    let e : use_rows (use_in h.operation.form) ≡ r.access + 1 = ap use_rows h.uses in
    omega (arith, k, e)

-- and each operation of the list is of a block
pub record StandsIn (bs : List PlanBlock) (k : ℕ) (o : Operation) : Type 0 where
  pub block : ℕ
  pub place : ℕ
  pub there : slice_get (block_operations (slice_get bs block)) place ≡ Some o

pub cut : {A : Type 0} (xs ys : List A) (n : ℕ) (x : A) → slice_get (xs ++ ys) n ≡ Some x → (slice_get xs n ≡ Some x) ⊎ ((m : ℕ) × (slice_get ys m ≡ Some x))
cut [] ys n x e = inr (n, e)
cut (y ∷ xs) ys zero x e = inl e
cut (y ∷ xs) ys (suc n) x e = cut xs ys n x e

pub stands_in : (bs : List PlanBlock) (k : ℕ) (o : Operation) → slice_get (all_operations bs) k ≡ Some o → StandsIn bs k o
stands_in [] k o e = absurd (let f : None ≡ Some o = e in cc)
stands_in (p ∷ bs) k o e = elim (cut p.operations (all_operations bs) k o e) [
  | inl f ↦ record { block = 0; place = k; there = f }
  | inr f ↦ (let x = stands_in bs f.0 o f.1 in record { block = suc x.block; place = x.place; there = x.there })
]

-- what holds of each use of a plan holds of all in the list
pub uses_of_blocks : (plan : PlainPlan) (P : Reach → Type 0) → ((b i : ℕ) (r : Reach) → HasUse plan b i r → P r) → AllUses P (all_operations plan.blocks)
uses_of_blocks plan P all k o r e h =
    let x = stands_in plan.blocks k o e in
    all x.block x.place r (record { operation = o; there = x.there; uses = h })

-- the operations of a block are among them
pub uses_in_block : (P : Reach → Type 0) (bs : List PlanBlock) (b : ℕ) (p : PlanBlock) → slice_get bs b ≡ Some p → AllUses P (all_operations bs) → AllUses P p.operations
uses_in_block P bs b p e all k o r f h =
    all (operations_before bs b + k) o r (in_all bs b k o (ap (λ (x : Option PlanBlock). slice_get (block_operations x) k) e ∙ f)) h

-- rows of joined lists
pub rows_joined : (xs ys : List Operation) → operations_rows (xs ++ ys) ≡ max (operations_rows xs) (operations_rows ys)
rows_joined [] ys = none_most (operations_rows ys)
  where
    none_most : (n : ℕ) → n ≡ max 0 n
    none_most n = grind arith
rows_joined (o ∷ xs) ys = ap (λ (n : ℕ). max (use_rows (use_in o.form)) n) (rows_joined xs ys) ∙ regroup _ _ _
  where
    regroup : (a b c : ℕ) → max a (max b c) ≡ max (max a b) c
    regroup a b c = grind arith

-- what holds of all uses holds of that of one operation
used_by : (P : Reach → Type 0) (f u : Option Reach) → f ≡ u → ((r : Reach) → f ≡ Some r → P r) → UsedBy P u
used_by P f None e all = tt
used_by P f (Some r) e all = all r e

pub used_at : (P : Reach → Type 0) (os : List Operation) (k : ℕ) (o : Operation) → slice_get os k ≡ Some o → AllUses P os → UsedBy P (use_in o.form)
used_at P os k o e all = used_by P (use_in o.form) (use_in o.form) refl (λ r h. all k o r e h)

pub used_has : (P : Reach → Type 0) (u : Option Reach) (r : Reach) → Some r ≡ u → UsedBy P u → P r
used_has P u r e h = subst (λ (x : Option Reach). UsedBy P x) (sym e) h

-- an element of a list of which a loop has come so far
pub got : {A : Type 0} (xs : List A) (i : ℕ) (x : A) → i < length xs → x ≡ get_or xs i x → slice_get xs i ≡ Some x
got xs i x h e = slice_get_read xs (length xs) i x refl h e

pub rest_is : {A : Type 0} (xs : List A) (i : ℕ) (x : A) → i < length xs → x ≡ get_or xs i x → drop i xs ≡ x ∷ drop (i + 1) xs
rest_is xs i x h e = drop_more xs i x h ∙ ap (λ (y : _). y ∷ drop (i + 1) xs) (sym e)

-- the rows of blocks, one block on
next_rows : (a b c n t : ℕ) → max a (max b c) ≡ t → n ≡ max a b → max n c ≡ t
next_rows a b c n t e f = grind (arith, e, f)

pub rows_step : (bs : List PlanBlock) (i : ℕ) (p : PlanBlock) (rows next total : ℕ) → i < length bs → p ≡ get_or bs i p → max rows (operations_rows (all_operations (drop i bs))) ≡ total → next ≡ max rows (operations_rows p.operations)
    → max next (operations_rows (all_operations (drop (i + 1) bs))) ≡ total
rows_step bs i p rows next total h e so f =
    let r : operations_rows (all_operations (drop i bs)) ≡ max (operations_rows p.operations) (operations_rows (all_operations (drop (i + 1) bs))) = ap (λ (ps : List PlanBlock). operations_rows (all_operations ps)) (rest_is bs i p h e) ∙ rows_joined p.operations (all_operations (drop (i + 1) bs)) in
    next_rows rows (operations_rows p.operations) (operations_rows (all_operations (drop (i + 1) bs))) next total (ap (λ (n : ℕ). max rows n) (sym r) ∙ so) f
