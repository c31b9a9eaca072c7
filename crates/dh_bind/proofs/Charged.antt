-- What an operation needs of a bank is below the charge of its access there: the charge is the greatest of those of
-- its operations, and that of an operation is above each place that it lists. And no bank is loaded beyond its ports,
-- since the load is the charge of a set that may come together.
use Rattle.std.proofs.Common.{◌≡◌, ℕ, suc, zero, ◌≤◌, ◌<◌, true, false, Bool, if◌then◌else◌, inl, inr, max, refl, ap, ◌∙◌, subst, arith, List, [], ◌∷◌, Option, Some, None}
use Rattle.std.specs.Prelude.{◌==◌, ◌&&◌, slice_get}
use Rattle.std.proofs.lemmas.Bool.{eq-eqb}
use Rattle.std.proofs.Math.Nat.{le-max_left, le-max_right}
use Rattle.dh_tree.specs.Meets.{load}
use Rattle.dh_tree.specs.Elements.{ports_at}
use Rattle.dh_tree.proofs.LargestSums.{load_reached}
use Rattle.dh_plan.specs.declared.operations.Operation.{Operation}
use Rattle.dh_plan.specs.declared.operations.OperationForm.{OperationForm}
use Rattle.dh_plan.specs.declared.operations.OperationForm.TheVariants.{Constant, Old, Compute, Convert, Select, Check, Probe, Read, Write, Set}
use Rattle.dh_plan.specs.declared.operations.PlanBlock.{PlanBlock}
use Rattle.dh_plan.specs.declared.operations.Reach.{Reach}
use Rattle.dh_plan.specs.PlainPlans.{PlainPlan, block_operations}
use Rattle.dh_plan.specs.SoundPlans.{access_in, use_in, HasAccess, HasUse, IsListed, place_charge, use_charge, operations_charge, blocks_charge, plan_charge, KeepsItsPorts, IsFormed}

-- a use is an access
pub use_accesses : (f : OperationForm) (r : Reach) → use_in f ≡ Some r → access_in f ≡ Some r
use_accesses (Constant word) r e = e
use_accesses (Old register) r e = e
use_accesses (Compute op left right) r e = e
use_accesses (Convert inner to) r e = e
use_accesses (Select test a b) r e = e
use_accesses (Check ok fault) r e = e
use_accesses (Probe access fault) r e = let f : None ≡ Some r = e in (cc)
use_accesses (Read access) r e = e
use_accesses (Write access value) r e = e
use_accesses (Set register value) r e = e

pub use_access : (plan : PlainPlan) (b i : ℕ) (r : Reach) → HasUse plan b i r → HasAccess plan b i r
use_access plan b i r h = record { operation = h.operation; there = h.there; accesses = use_accesses h.operation.form r h.uses }

-- each place is below the charge of its list
at_listed : (t : Bool) (x m : ℕ) → t ≡ true → x < (if t then max (suc x) m else m)
at_listed true x m e = let h = le-max_left (suc x) m in omega (arith, h)
at_listed false x m e = absurd (let f : false ≡ true = e in cc)

at_other : (t : Bool) (x y m : ℕ) → x < m → x < (if t then max y m else m)
at_other true x y m h = let k = le-max_right y m in omega (arith, h, k)
at_other false x y m h = h

pub place_below : (bank place : ℕ) (bs : List (ℕ × ℕ)) → IsListed bank place bs → place < place_charge bank bs
place_below bank place [] h = absurd h
place_below bank place (b ∷ bs) (inl h) =
    subst (λ (p : ℕ). p < (if b.0 == bank then max (suc b.1) (place_charge bank bs) else place_charge bank bs)) h.1
    (at_listed (b.0 == bank) b.1 (place_charge bank bs) (eq-eqb b.0 bank h.0))
place_below bank place (b ∷ bs) (inr h) = at_other (b.0 == bank) place (suc b.1) (place_charge bank bs) (place_below bank place bs h)

-- the charge of an operation with this access
chosen_both : (s t : Bool) (n : ℕ) → s ≡ true → t ≡ true → (if s && t then n else 0) ≡ n
chosen_both true true n e f = refl
chosen_both true false n e f = absurd (let g : false ≡ true = f in cc)
chosen_both false t n e f = absurd (let g : false ≡ true = e in cc)

pub own_charge : (r : Reach) (bank : ℕ) → use_charge r.access r.memory bank (Some r) ≡ place_charge bank r.banks
own_charge r bank = chosen_both (r.access == r.access) (r.memory == r.memory) (place_charge bank r.banks) (eq-eqb r.access r.access refl) (eq-eqb r.memory r.memory refl)

-- it is no greater than that of all operations
pub among_operations : (access memory bank : ℕ) (os : List Operation) (i : ℕ) (o : Operation) → slice_get os i ≡ Some o
    → use_charge access memory bank (use_in o.form) ≤ operations_charge access memory bank os
among_operations access memory bank [] i o e = absurd (let f : None ≡ Some o = e in cc)
among_operations access memory bank (p ∷ os) zero o e =
    let f : p ≡ o = (let g : Some p ≡ Some o = e in cc) in
    let h = le-max_left (use_charge access memory bank (use_in p.form)) (operations_charge access memory bank os) in
    subst (λ (q : Operation). use_charge access memory bank (use_in q.form) ≤ operations_charge access memory bank (p ∷ os)) f h
among_operations access memory bank (p ∷ os) (suc i) o e =
    let k = among_operations access memory bank os i o e in
    let h = le-max_right (use_charge access memory bank (use_in p.form)) (operations_charge access memory bank os) in
    omega (arith, h, k)

pub among_blocks : (access memory bank : ℕ) (bs : List PlanBlock) (b i : ℕ) (o : Operation) → slice_get (block_operations (slice_get bs b)) i ≡ Some o
    → use_charge access memory bank (use_in o.form) ≤ blocks_charge access memory bank bs
among_blocks access memory bank [] b i o e = absurd (let f : None ≡ Some o = e in cc)
among_blocks access memory bank (p ∷ bs) zero i o e =
    let k = among_operations access memory bank p.operations i o e in
    let h = le-max_left (operations_charge access memory bank p.operations) (blocks_charge access memory bank bs) in
    omega (arith, h, k)
among_blocks access memory bank (p ∷ bs) (suc b) i o e =
    let k = among_blocks access memory bank bs b i o e in
    let h = le-max_right (operations_charge access memory bank p.operations) (blocks_charge access memory bank bs) in
    omega (arith, h, k)

-- so each place is below the charge of the access
pub place_charged : (plan : PlainPlan) (b i : ℕ) (r : Reach) (bank place : ℕ) → HasUse plan b i r → IsListed bank place r.banks
    → place < plan_charge plan r.memory bank r.access
place_charged plan b i r bank place h listed =
    let below = place_below bank place r.banks listed in
    let own : use_charge r.access r.memory bank (use_in h.operation.form) ≡ place_charge bank r.banks = ap (λ (u : Option Reach). use_charge r.access r.memory bank u) h.uses ∙ own_charge r bank in
    let most = among_blocks r.access r.memory bank plan.blocks b i h.operation h.there in
    omega (arith, below, own, most)

-- no bank is loaded beyond its ports
pub load_fits : (plan : PlainPlan) → IsFormed plan → KeepsItsPorts plan → (memory bank : ℕ) → load (plan_charge plan memory bank) plan.meets ≤ ports_at plan.table memory
load_fits plan formed keeps memory bank =
    let x = load_reached (plan_charge plan memory bank) plan.meets formed.distinct in
    subst (λ (n : ℕ). n ≤ ports_at plan.table memory) x.sum (keeps x.chosen x.together memory bank)
