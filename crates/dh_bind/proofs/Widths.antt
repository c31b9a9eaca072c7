-- How wide rows are: each bank that is listed has a place in them, and they are no wider than banks that all are below.
use Rattle.std.proofs.Common.{◌≡◌, ℕ, suc, zero, ◌+◌, ◌≤◌, ◌<◌, max, refl, ap, sym, ◌∙◌, subst, arith, List, [], ◌∷◌, ◌++◌, length, drop, get_or, Option, Some, None}
use Rattle.std.specs.Prelude.{slice_get}
use Rattle.std.specs.List.{AllByRecursion}
use Rattle.std.proofs.Math.Nat.{le-max_left, le-max_right}
use Rattle.dh_plan.specs.declared.operations.Operation.{Operation}
use Rattle.dh_plan.specs.declared.operations.PlanBlock.{PlanBlock}
use Rattle.dh_plan.specs.declared.operations.Reach.{Reach}
use Rattle.dh_plan.specs.PlainPlans.{PlainPlan, first_in}
use Rattle.dh_plan.specs.SoundPlans.{use_in, HasUse}
use Rattle.dh_bind.specs.Drafts.{all_operations, banks_width, use_width, operations_width, AllUses}
use Rattle.dh_bind.proofs.Flat.{use_in_all, rest_is}

-- a listed bank has a place
all_narrow : (n : ℕ) (bs : List (ℕ × ℕ)) → banks_width bs ≤ n → AllByRecursion (λ b. b.0 < n) bs
all_narrow n [] h = tt
all_narrow n (b ∷ bs) h = (
  (let k = le-max_left (b.0 + 1) (banks_width bs) in omega (arith, h, k)),
  all_narrow n bs (let k = le-max_right (b.0 + 1) (banks_width bs) in omega (arith, h, k)),
)

widths_among : (os : List Operation) (i : ℕ) (o : Operation) → slice_get os i ≡ Some o → use_width (use_in o.form) ≤ operations_width os
widths_among [] i o e = absurd (let f : None ≡ Some o = e in cc)
widths_among (p ∷ os) zero o e =
    subst (λ (q : Operation). use_width (use_in q.form) ≤ operations_width (p ∷ os)) (let f : p ≡ o = (let g : Some p ≡ Some o = e in cc) in f) (le-max_left (use_width (use_in p.form)) (operations_width os))
widths_among (p ∷ os) (suc i) o e =
    let h = widths_among os i o e in
    let k = le-max_right (use_width (use_in p.form)) (operations_width os) in
    omega (arith, h, k)

pub banks_fit : (plan : PlainPlan) (b i : ℕ) (r : Reach) → HasUse plan b i r → AllByRecursion (λ x. x.0 < operations_width (all_operations plan.blocks)) r.banks
banks_fit plan b i r h =
    let k = widths_among (all_operations plan.blocks) (first_in plan b + i) h.operation (use_in_all plan b i r h) in
    let e : use_width (use_in h.operation.form) ≡ banks_width r.banks = ap use_width h.uses in
    all_narrow (operations_width (all_operations plan.blocks)) r.banks (omega (arith, k, e))

-- rows are no wider than need be
most : (a b n : ℕ) → a ≤ n → b ≤ n → max a b ≤ n
most a b n h k = grind (arith, h, k)

banks_most : (n : ℕ) (bs : List (ℕ × ℕ)) → AllByRecursion (λ b. b.0 < n) bs → banks_width bs ≤ n
banks_most n [] all = omega arith
banks_most n (b ∷ bs) all = most (b.0 + 1) (banks_width bs) n (let h = all.0 in omega (arith, h)) (banks_most n bs all.1)

use_most : (n : ℕ) (u : Option Reach) → ((r : Reach) → u ≡ Some r → AllByRecursion (λ x. x.0 < n) r.banks) → use_width u ≤ n
use_most n None all = omega arith
use_most n (Some r) all = banks_most n r.banks (all r refl)

pub width_most : (n : ℕ) (os : List Operation) → AllUses (λ r. AllByRecursion (λ x. x.0 < n) r.banks) os → operations_width os ≤ n
width_most n [] all = omega arith
width_most n (o ∷ os) all =
    most (use_width (use_in o.form)) (operations_width os) n (use_most n (use_in o.form) (λ r e. all 0 o r refl e)) (width_most n os (λ k p r e f. all (suc k) p r e f))

-- one block on
widths_joined : (xs ys : List Operation) → operations_width (xs ++ ys) ≡ max (operations_width xs) (operations_width ys)
widths_joined [] ys = none_most (operations_width ys)
  where
    none_most : (n : ℕ) → n ≡ max 0 n
    none_most n = grind arith
widths_joined (o ∷ xs) ys = ap (λ (n : ℕ). max (use_width (use_in o.form)) n) (widths_joined xs ys) ∙ regroup _ _ _
  where
    regroup : (a b c : ℕ) → max a (max b c) ≡ max (max a b) c
    regroup a b c = grind arith

next_width : (a b c n t : ℕ) → max a (max b c) ≡ t → n ≡ max a b → max n c ≡ t
next_width a b c n t e f = grind (arith, e, f)

pub width_step : (bs : List PlanBlock) (i : ℕ) (p : PlanBlock) (wide next total : ℕ) → i < length bs → p ≡ get_or bs i p → max wide (operations_width (all_operations (drop i bs))) ≡ total → next ≡ max wide (operations_width p.operations)
    → max next (operations_width (all_operations (drop (i + 1) bs))) ≡ total
width_step bs i p wide next total h e so f =
    let r : operations_width (all_operations (drop i bs)) ≡ max (operations_width p.operations) (operations_width (all_operations (drop (i + 1) bs))) = ap (λ (ps : List PlanBlock). operations_width (all_operations ps)) (rest_is bs i p h e) ∙ widths_joined p.operations (all_operations (drop (i + 1) bs)) in
    next_width wide (operations_width p.operations) (operations_width (all_operations (drop (i + 1) bs))) next total (ap (λ (n : ℕ). max wide n) (sym r) ∙ so) f
