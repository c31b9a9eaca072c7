-- Lists that go by the numbers of a plan's operations, block by block: the part of a block is where it was put.
use Rattle.std.proofs.Common.{◌≡◌, ℕ, zero, suc, ◌+◌, ◌-◌, ◌≤◌, ◌<◌, inl, inr, List, take, drop, length, refl, sym, ap, subst, ◌∙◌, arith}
use Rattle.std.specs.Prelude.{[], ◌∷◌, ◌++◌, slice_get}
use Rattle.std.proofs.Math.Seq.{drop-append_seam}
use Rattle.std.proofs.lemmas.List.{length-drop, drop-drop, take-append-le, drop-append-le}
use Rattle.std.proofs.lemmas.Option.{slice_get_cases}
use Rattle.dh_plan.specs.declared.operations.Operation.{Operation}
use Rattle.dh_plan.specs.declared.operations.PlanBlock.{PlanBlock}
use Rattle.dh_plan.specs.PlainPlans.{PlainPlan, first_in, operations_in, operations_before, operation_count, block_operations}
use Rattle.dh_datapath.specs.BlockWires.{part_in}

pub before_none : (bs : List PlanBlock) → operations_before bs 0 ≡ 0
before_none [] = refl
before_none (b ∷ bs) = refl

pub before_first : (plan : PlainPlan) → operations_before plan.blocks 0 ≡ 0
before_first plan = before_none plan.blocks

before_suc : (bs : List PlanBlock) (n : ℕ) → operations_before bs (suc n) ≡ operations_before bs n + length (block_operations (slice_get bs n))
before_suc [] n = refl
before_suc (b ∷ bs) zero = let none = before_none bs in omega (arith, none)
before_suc (b ∷ bs) (suc n) = let f = before_suc bs n in omega (arith, f)

-- the operations before the next block
pub before_next : (plan : PlainPlan) (n : ℕ) → operations_before plan.blocks (n + 1) ≡ first_in plan n + length (operations_in plan n)
before_next plan n = ap (λ (k : ℕ). operations_before plan.blocks k) (next n) ∙ before_suc plan.blocks n
  where
    next : (n : ℕ) → n + 1 ≡ suc n
    next n = omega arith

before_rises : (bs : List PlanBlock) (n m : ℕ) → operations_before bs n ≤ operations_before bs (n + m)
before_rises [] n m = omega arith
before_rises (b ∷ bs) zero m = omega arith
before_rises (b ∷ bs) (suc n) m =
    let f = before_rises bs n m in
    let more : suc (n + m) ≡ suc n + m = omega arith in
    subst (λ (k : ℕ). length b.operations + operations_before bs n ≤ operations_before (b ∷ bs) k) more (omega (arith, f))

-- a block ends where the next ones begin
pub block_ends : (plan : PlainPlan) (b n : ℕ) → b < n → first_in plan b + length (operations_in plan b) ≤ operations_before plan.blocks n
block_ends plan b n less =
    let next = before_next plan b in
    let same : (b + 1) + (n - (b + 1)) ≡ n = omega (arith, less) in
    let rises = subst (λ (k : ℕ). operations_before plan.blocks (b + 1) ≤ operations_before plan.blocks k) same (before_rises plan.blocks (b + 1) (n - (b + 1))) in
    omega (arith, next, rises)

-- an operation of a block is one of all
pub operations_inside : (bs : List PlanBlock) (b i : ℕ) → i < length (block_operations (slice_get bs b)) → operations_before bs b + i < operations_before bs (length bs)
operations_inside [] b i h = absurd (omega (arith, h))
operations_inside (x ∷ bs) zero i h = omega (arith, h)
operations_inside (x ∷ bs) (suc b) i h = let f = operations_inside bs b i h in omega (arith, f)

module _ {A : Type 0} (plan : PlainPlan) where
  -- the part of an earlier block stays
  pub part_stays : (all more : List A) (b n : ℕ) → length all ≡ operations_before plan.blocks n → b < n → part_in plan (all ++ more) b ≡ part_in plan all b
  part_stays all more b n long less =
      let ends = block_ends plan b n less in
      ap (λ (l : List A). take (length (operations_in plan b)) l) (drop-append-le (first_in plan b) all more (omega (arith, ends, long)))
      ∙ take-append-le (length (operations_in plan b)) (drop (first_in plan b) all) more (let d = length-drop (first_in plan b) all in omega (arith, ends, long, d))

  take_whole : (xs : List A) (n : ℕ) → n ≡ length xs → take n xs ≡ xs
  take_whole [] zero e = refl
  take_whole [] (suc n) e = refl
  take_whole (x ∷ xs) zero e = absurd (let f = e in omega (arith, f))
  take_whole (x ∷ xs) (suc n) e = ap (λ (l : List A). x ∷ l) (take_whole xs n (let f = e in omega (arith, f)))

  -- and that of the next one is what is put behind
  pub part_added : (all more : List A) (n : ℕ) → length all ≡ first_in plan n → length more ≡ length (operations_in plan n) → part_in plan (all ++ more) n ≡ more
  part_added all more n long own =
      ap (λ (k : ℕ). take (length (operations_in plan n)) (drop k (all ++ more))) (sym long)
      ∙ (ap (λ (l : List A). take (length (operations_in plan n)) l) (drop-append_seam all more) ∙ take_whole more (length (operations_in plan n)) (sym own))

  -- Walking along such a list.

  pub rest_long : (n : ℕ) (all rest : List A) (os : List Operation) → n < length plan.blocks → length all ≡ operation_count plan → rest ≡ drop (operations_before plan.blocks n) all → os ≡ operations_in plan n
      → length os ≤ length rest
  rest_long n all rest os less every e f =
      let most = block_ends plan n (length plan.blocks) less in
      let left : length rest ≡ length all - operations_before plan.blocks n = ap (λ (l : List A). length l) e ∙ length-drop (operations_before plan.blocks n) all in
      let same : length os ≡ length (operations_in plan n) = ap (λ (l : List Operation). length l) f in
      omega (arith, most, left, same, every)

  pub rest_front : (n : ℕ) (all rest front : List A) (os : List Operation) → rest ≡ drop (operations_before plan.blocks n) all → os ≡ operations_in plan n → front ≡ take (length os) rest → front ≡ part_in plan all n
  rest_front n all rest front os e f g = g ∙ (λ i. take (length (f i)) (e i))

  pub rest_next : (n : ℕ) (all rest behind : List A) (os : List Operation) → rest ≡ drop (operations_before plan.blocks n) all → os ≡ operations_in plan n → behind ≡ drop (length os) rest
      → behind ≡ drop (operations_before plan.blocks (n + 1)) all
  rest_next n all rest behind os e f g =
      g ∙ ((λ i. drop (length (f i)) (e i))
      ∙ (drop-drop (length (operations_in plan n)) (operations_before plan.blocks n) all ∙ ap (λ (k : ℕ). drop k all) (sym (before_next plan n))))

-- behind the last block there is no operation
pub no_operations : (plan : PlainPlan) (b : ℕ) → length plan.blocks ≤ b → operations_in plan b ≡ []
no_operations plan b past =
    elim (slice_get_cases plan.blocks b).1 [
      | inl found ↦ absurd (let inside = found.1 in omega (arith, inside, past))
      | inr beyond ↦ ap block_operations beyond.1
    ]
