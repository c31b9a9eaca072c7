-- Blocks judged one by one. The number of a block's first operation is that of the block before and its operations,
-- so the walk knows it; and that a schedule is legal says of the block in question that it is, and that there are
-- clocks for its operations.
use Rattle.std.proofs.Common.{◌≡◌, ℕ, zero, suc, ◌+◌, ◌-◌, ◌<◌, ◌≤◌, inl, inr, List, length, take, drop, get_or, refl, sym, ap, subst, ◌∙◌, add-one, arith}
use Rattle.std.specs.Prelude.{[], ◌∷◌, ◌↔◌, slice_get}
use Rattle.std.proofs.Math.Nat.{add-sub_cancel_left}
use Rattle.std.proofs.lemmas.Option.{slice_get-get_or}
use Rattle.dh_plan.specs.declared.operations.Operation.{Operation}
use Rattle.dh_plan.specs.declared.operations.PlanBlock.{PlanBlock}
use Rattle.dh_plan.specs.declared.schedules.Limits.{Limits}
use Rattle.dh_plan.specs.LegalSchedules.{Timing, IsLegalBlock, IsLegal}
use Rattle.dh_plan.specs.PlainPlans.{PlainPlan, operations_before, block_operations}
use Rattle.dh_plan.proofs.BlocksSolved.{below_suc}
use Rattle.dh_plan.proofs.LeastLengths.{blocks_within}

-- the clocks of a block among those of all
abbrev pub own_clocks : List PlanBlock → (cs : List ℕ) → (n : ℕ) → List ℕ
own_clocks bs cs n = take (length (block_operations (slice_get bs n))) (drop (operations_before bs n) cs)

abbrev pub IsLegalAt : Limits → List PlanBlock → (cs ls : List ℕ) → (n : ℕ) → Type 0
IsLegalAt limits bs cs ls n = IsLegalBlock limits (operations_before bs n) (block_operations (slice_get bs n)) (own_clocks bs cs n) (get_or ls n 0)

pub none_before : (bs : List PlanBlock) → operations_before bs 0 ≡ 0
none_before [] = refl
none_before (b ∷ bs) = refl

pub first_behind : (bs : List PlanBlock) (n : ℕ) → n < length bs → operations_before bs (suc n) ≡ operations_before bs n + length (block_operations (slice_get bs n))
first_behind [] n h = absurd (omega (arith, h))
first_behind (b ∷ bs) zero h = let z = none_before bs in omega (arith, z)
first_behind (b ∷ bs) (suc n) h = let so = first_behind bs n (omega (arith, h)) in omega (arith, so)

-- the operations of the block that is walked over
pub here_is : (bs : List PlanBlock) (n : ℕ) (b : PlanBlock) (os : List Operation) → n < length bs → b ≡ get_or bs n b → os ≡ b.operations → block_operations (slice_get bs n) ≡ os
here_is bs n b os within at is = ap block_operations (slice_get-get_or bs n b within) ∙ (ap (λ (x : PlanBlock). x.operations) (sym at) ∙ sym is)

-- a block judged by what the walk has at hand is that block of the plan
pub judged_is : (limits : Limits) (bs : List PlanBlock) (cs ls : List ℕ) (n first : ℕ) (os : List Operation)
    → block_operations (slice_get bs n) ≡ os → first ≡ operations_before bs n
    → IsLegalBlock limits first os (take ((first + length os) - first) (drop first cs)) (get_or ls n 0) ↔ IsLegalAt limits bs cs ls n
judged_is limits bs cs ls n first os is at = (
  λ h.
      let a = subst (λ (k : ℕ). IsLegalBlock limits first os (take k (drop first cs)) (get_or ls n 0)) (add-sub_cancel_left first (length os)) h in
      let b = subst (λ (f : ℕ). IsLegalBlock limits f os (take (length os) (drop f cs)) (get_or ls n 0)) at a in
      subst (λ (xs : List Operation). IsLegalBlock limits (operations_before bs n) xs (take (length xs) (drop (operations_before bs n) cs)) (get_or ls n 0)) (sym is) b,
  λ h.
      let b = subst (λ (xs : List Operation). IsLegalBlock limits (operations_before bs n) xs (take (length xs) (drop (operations_before bs n) cs)) (get_or ls n 0)) is h in
      let a = subst (λ (f : ℕ). IsLegalBlock limits f os (take (length os) (drop f cs)) (get_or ls n 0)) (sym at) b in
      subst (λ (k : ℕ). IsLegalBlock limits first os (take k (drop first cs)) (get_or ls n 0)) (sym (add-sub_cancel_left first (length os))) a,
)

pub next_first : (bs : List PlanBlock) (n first : ℕ) (os : List Operation) → n < length bs → block_operations (slice_get bs n) ≡ os → first ≡ operations_before bs n
    → first + length os ≡ operations_before bs (n + 1)
next_first bs n first os within is at =
    let e = first_behind bs n within in
    let long = ap length is in
    let one : operations_before bs (n + 1) ≡ operations_before bs (suc n) = ap (λ (k : ℕ). operations_before bs k) (add-one n) in
    omega (arith, e, long, one, at)

pub legal_below : (limits : Limits) (bs : List PlanBlock) (cs ls : List ℕ) (n : ℕ) → ((b : ℕ) → b < n → IsLegalAt limits bs cs ls b) → IsLegalAt limits bs cs ls n
    → (b : ℕ) → b < n + 1 → IsLegalAt limits bs cs ls b
legal_below limits bs cs ls n below here b h =
    elim (below_suc b n (omega (arith, h))) [
      | inl small ↦ below b small
      | inr same ↦ subst (λ (k : ℕ). IsLegalAt limits bs cs ls k) (sym same) here
    ]

-- what a legal schedule says of a block
pub legal_there : (limits : Limits) (plan : PlainPlan) (t : Timing) (bs : List PlanBlock) (cs ls : List ℕ) (n : ℕ) → bs ≡ plan.blocks → cs ≡ t.clocks → ls ≡ t.lengths
    → n < length bs → IsLegal plan limits t → IsLegalAt limits bs cs ls n
legal_there limits plan t bs cs ls n eb ec el within legal =
    let many = ap length eb in
    subst (λ (x : List PlanBlock). IsLegalAt limits x cs ls n) (sym eb)
    (subst (λ (x : List ℕ). IsLegalAt limits plan.blocks x ls n) (sym ec)
    (subst (λ (x : List ℕ). IsLegalAt limits plan.blocks t.clocks x n) (sym el) (legal.blocks n (omega (arith, within, many)))))

-- there are clocks for a block's operations
pub enough_clocks : (limits : Limits) (plan : PlainPlan) (t : Timing) (bs : List PlanBlock) (cs : List ℕ) (n first : ℕ) (os : List Operation) → bs ≡ plan.blocks → cs ≡ t.clocks
    → n < length bs → block_operations (slice_get bs n) ≡ os → first ≡ operations_before bs n → IsLegal plan limits t → first + length os ≤ length cs
enough_clocks limits plan t bs cs n first os eb ec within is at legal =
    let all : length cs ≡ operations_before bs (length bs) =
    ap length ec ∙ (legal.all_clocks ∙ ap (λ (x : List PlanBlock). operations_before x (length x)) (sym eb)) in
    let few = blocks_within bs n within in
    let long = ap length is in
    omega (arith, all, few, long, at)
