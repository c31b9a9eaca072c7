-- Without limits the clock of an operation is no greater than the number of operations before it, since each clock that
-- an operation waits is one that a read takes. So a block is no longer than it has operations, and one clock more.
use Rattle.std.proofs.Common.{◌≡◌, inl, inr, ℕ, suc, ◌+◌, ◌-◌, ◌<◌, ◌≤◌, Bool, true, false, if◌then◌else◌, List, [], ◌∷◌, ◌++◌, length, map, get_or, Option, refl, sym, ap, subst, arith}
use Rattle.std.specs.Prelude.{slice_get}
use Rattle.std.proofs.Math.Seq.{get_or-append_seam}
use Rattle.std.proofs.lemmas.List.{get_or_append_left, get_or_past}
use Rattle.std.proofs.lemmas.Bool.{cases_lt}
use Rattle.std.proofs.lemmas.Option.{slice_get_cases}
use Rattle.dh_plan.specs.declared.operations.Operation.{Operation}
use Rattle.dh_plan.specs.declared.operations.OperationForm.{OperationForm}
use Rattle.dh_plan.specs.LegalSchedules.{is_read, there_at, there_from, value_clock, greatest_number, needed_clock, last_clock, least_clocks, least_length}
use Rattle.dh_plan.specs.Ordered.{operation_takes}
use Rattle.dh_plan.specs.PlainPlans.{PlainPlan, first_in, operations_in}
use Rattle.dh_plan.proofs.LeastLegal.{length_one_more}
use Rattle.dh_backend.specs.SuitedPlans.{BlocksAreShort}

-- each clock is no greater than its place, counted from a base
abbrev pub AreEarly : (base : ℕ) → List ℕ → Type 0
AreEarly base cs = (k : ℕ) → get_or cs k 0 ≤ base + k

there_soon : (f : OperationForm) (clock : ℕ) → there_at f clock ≤ suc clock
there_soon f clock = by (is_read f)
  where
    by : (x : Bool) → (if x then suc clock else clock) ≤ suc clock
    by true = omega arith
    by false = omega arith

value_early : (os : List Operation) (cs : List ℕ) → length os ≡ length cs → AreEarly 0 cs → (k : ℕ) → there_from (slice_get os k) (get_or cs k 0) ≤ length os
value_early os cs long early k =
    elim (slice_get_cases os k).1 [
      | inl (o, within, there, is) ↦ (
          let soon = there_soon o.form (get_or cs k 0) in
          let low = early k in
          subst (λ (x : Option Operation). there_from x (get_or cs k 0) ≤ length os) (sym there) (omega (arith, soon, low, within)))
      | inr (past, none) ↦ (
          let zero_clock = get_or_past cs k 0 (omega (arith, past, long)) in
          subst (λ (x : Option Operation). there_from x (get_or cs k 0) ≤ length os) (sym none) (omega (arith, zero_clock)))
    ]

greatest_within : (f : ℕ → ℕ) (most : ℕ) → ((n : ℕ) → f n ≤ most) → (ns : List ℕ) → greatest_number (map f ns) ≤ most
greatest_within f most h [] = omega arith
greatest_within f most h (n ∷ ns) =
    let x = h n in
    let y = greatest_within f most h ns in
    grind (arith, x, y)

needed_early : (first : ℕ) (os : List Operation) (cs : List ℕ) → length os ≡ length cs → AreEarly 0 cs → (o : Operation) → needed_clock first os cs o ≤ length os
needed_early first os cs long early o =
    greatest_within (value_clock first os cs) (length os) (λ n. value_early os cs long early (n - first)) (operation_takes o)

one_more_early : (cs : List ℕ) (c : ℕ) → AreEarly 0 cs → c ≤ length cs → AreEarly 0 (cs ++ c ∷ [])
one_more_early cs c early low k =
    let long = length_one_more cs c in
    elim (slice_get_cases (cs ++ c ∷ []) k).1 [
      | inl (x, within, there, is) ↦ by k (omega (arith, within, long))
      | inr (past, none) ↦ (let none_there = get_or_past (cs ++ c ∷ []) k 0 past in omega (arith, none_there))
    ]
  where
    last : (j : ℕ) → j ≡ length cs → get_or (cs ++ c ∷ []) j 0 ≤ 0 + j
    last j e =
        let seam = get_or-append_seam cs c [] 0 in
        let here = ap (λ (n : ℕ). get_or (cs ++ c ∷ []) n 0) e in
        omega (arith, seam, here, e, low)

    front : (j : ℕ) → j < length cs → get_or (cs ++ c ∷ []) j 0 ≤ 0 + j
    front j h =
        let same = get_or_append_left cs (c ∷ []) 0 j h in
        let x = early j in
        omega (arith, same, x)

    by : (j : ℕ) → j ≤ length cs → get_or (cs ++ c ∷ []) j 0 ≤ 0 + j
    by j h = elim (cases_lt j (length cs)) [ inl less ↦ front j less | inr past ↦ last j (omega (arith, h, past)) ]

least_early : (first : ℕ) (rest before : List Operation) (cs : List ℕ) → length before ≡ length cs → AreEarly 0 cs → AreEarly 0 (least_clocks first before cs rest)
least_early first [] before cs long early = early
least_early first (o ∷ rest) before cs long early =
    let c = needed_clock first before cs o in
    let low = needed_early first before cs long early o in
    let lb = length_one_more before o in
    let lc = length_one_more cs c in
    least_early first rest (before ++ o ∷ []) (cs ++ c ∷ []) (omega (arith, lb, lc, long)) (one_more_early cs c early (omega (arith, low, long)))

last_within : (os : List Operation) (cs : List ℕ) (base : ℕ) → AreEarly base cs → last_clock os cs ≤ base + length os
last_within [] cs base early = omega arith
last_within (o ∷ os) [] base early = omega arith
last_within (o ∷ os) (c ∷ cs) base early =
    let soon = there_soon o.form c in
    let low = early 0 in
    let rest = last_within os cs (suc base) (λ k. let x = early (suc k) in omega (arith, x)) in
    grind (arith, soon, low, rest)

pub least_clocks_early : (first : ℕ) (os : List Operation) (k : ℕ) → get_or (least_clocks first [] [] os) k 0 ≤ k
least_clocks_early first os k = let x = least_early first os [] [] refl (λ j. omega arith) k in omega (arith, x)

pub least_length_short : (first : ℕ) (os : List Operation) → least_length first os ≤ suc (length os)
least_length_short first os =
    let x = last_within os (least_clocks first [] [] os) 0 (least_early first os [] [] refl (λ j. omega arith)) in
    omega (arith, x)

pub blocks_are_short : (plan : PlainPlan) → BlocksAreShort plan
blocks_are_short plan block = least_length_short (first_in plan block) (operations_in plan block)
