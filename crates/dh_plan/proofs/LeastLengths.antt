-- Without limits the schedule in which each operation stands at the least clock that it may is the one that puts it
-- where all is there that it takes: so each block has its least length.
use Rattle.std.proofs.Common.{◌≡◌, ℕ, zero, suc, ◌+◌, ◌<◌, ◌≤◌, List, length, sym, ap, ◌∙◌, arith}
use Rattle.std.specs.Prelude.{[], ◌∷◌, ◌++◌, drop, slice_get}
use Rattle.std.proofs.lemmas.List.{append-nil, append_assoc, length-take-le, length-drop}
use Rattle.dh_plan.specs.declared.operations.Operation.{Operation}
use Rattle.dh_plan.specs.declared.operations.PlanBlock.{PlanBlock}
use Rattle.dh_plan.specs.LegalSchedules.{Timing, needed_clock, last_clock, clocks_in, MayStandAt, AreLeast, least_clocks}
use Rattle.dh_plan.specs.PlainPlans.{PlainPlan, operations_before, block_operations, operations_in, first_in, operation_count}
use Rattle.dh_plan.specs.ScheduleLaws.{without_limits, HasLeastLengths}

-- the clock at which all is there is one at which an operation may stand
pub may_stand : (first : ℕ) (before : List Operation) (clocks : List ℕ) (o : Operation) → MayStandAt without_limits first before clocks o (needed_clock first before clocks o)
may_stand first before clocks o = record { needs = omega arith; products = tt; chain = tt }

pub same_clocks : (first : ℕ) (rest : List Operation) (cs : List ℕ) (before : List Operation) (clocks : List ℕ) → length cs ≡ length rest
    → AreLeast without_limits first before clocks rest cs → clocks ++ cs ≡ least_clocks first before clocks rest
same_clocks first [] [] before clocks long h = append-nil clocks
same_clocks first [] (c ∷ cs) before clocks long h = absurd (omega (arith, long))
same_clocks first (o ∷ rest) [] before clocks long h = absurd h
same_clocks first (o ∷ rest) (c ∷ cs) before clocks long h =
    let needs = h.0.0.needs in
    let least = h.0.1 (needed_clock first before clocks o) (may_stand first before clocks o) in
    let same : c ≡ needed_clock first before clocks o = omega (arith, needs, least) in
    sym (append_assoc clocks (c ∷ []) cs)
    ∙ (same_clocks first rest cs (before ++ o ∷ []) (clocks ++ c ∷ []) (omega (arith, long)) h.1
    ∙ ap (λ (n : ℕ). least_clocks first (before ++ o ∷ []) (clocks ++ n ∷ []) rest) same)

-- a block's operations are among those of the plan
pub blocks_within : (bs : List PlanBlock) (n : ℕ) → n < length bs
    → operations_before bs n + length (block_operations (slice_get bs n)) ≤ operations_before bs (length bs)
blocks_within [] n h = absurd (omega (arith, h))
blocks_within (b ∷ bs) zero h = omega arith
blocks_within (b ∷ bs) (suc n) h =
    let so = blocks_within bs n (omega (arith, h)) in
    omega (arith, so)

pub clocks_long : (plan : PlainPlan) (t : Timing) (block : ℕ) → length t.clocks ≡ operation_count plan → block < length plan.blocks
    → length (clocks_in plan t block) ≡ length (operations_in plan block)
clocks_long plan t block all within =
    let few = blocks_within plan.blocks block within in
    let left = length-drop (first_in plan block) t.clocks in
    length-take-le (length (operations_in plan block)) (drop (first_in plan block) t.clocks) (omega (arith, few, left, all))

pub has_least_lengths : HasLeastLengths
has_least_lengths plan t h block within =
    let os = operations_in plan block in
    let same = same_clocks (first_in plan block) os (clocks_in plan t block) [] [] (clocks_long plan t block h.legal.all_clocks within) (h.least block within) in
    (h.legal.blocks block within).ends ∙ ap (λ (cs : List ℕ). suc (last_clock os cs)) same
