-- A loop of a plan that has turns has its counter below them, all the time and wherever the run stands: registers start
-- with 0, no operation sets a counter, a loop that goes on has a turn more before its last one, and one that ends
-- leaves its counter at 0. No other loop has the same counter. So that a loop begins at 0 need not be known here.
use Rattle.std.proofs.Common.{◌≡◌, ℕ, zero, suc, ◌+◌, ◌-◌, ◌<◌, ◌≤◌, ◌^◌, inl, inr, Some, List, length, refl, sym, ap, subst, ◌∙◌, arith}
use Rattle.std.specs.Prelude.{[], ◌∷◌, ◌==◌, ◌%◌, false, slice_get, slice_index, slice_set}
use Rattle.std.specs.List.{AllByRecursion}
use Rattle.std.proofs.Math.Nat.{mod-eq_of_lt}
use Rattle.std.proofs.lemmas.Bool.{cases_eq}
use Rattle.std.proofs.lemmas.Bool.Decides.{nat_tests}
use Rattle.std.proofs.lemmas.List.{get_or-set_other, length-replicate}
use Rattle.std.proofs.lemmas.Nat.{pow_pos}
use Rattle.dh_value.specs.declared.kinds.Kind.{Kind}
use Rattle.dh_value.specs.Words.{width_of}
use Rattle.dh_plan.specs.Blocks.{StepStart, kind_at, all_set}
use Rattle.dh_plan.specs.Correspondence.{FitKinds}
use Rattle.dh_plan.specs.PlainPlans.{PlainPlan, first_in, operations_in}
use Rattle.dh_plan.specs.PlanRuns.{first_registers, sets_of_block, block_values, step_sets, counted_up}
use Rattle.dh_plan.specs.SoundPlans.{Counting, countings, CountsTurns, AreCounters, KeepsCounter, IsNeverSet}
use Rattle.dh_plan.proofs.Appends.{sets_in_order}
use Rattle.dh_plan.proofs.JointEnters.{set_small, set_fits, counted_small}
use Rattle.dh_plan.proofs.JointSteps.{sets_stay, zero_at}

-- what holds of all holds of the one at a place
pub all_at : {A : Type 0} (P : A → Type 0) (xs : List A) (i : ℕ) (x : A) → AllByRecursion P xs → slice_get xs i ≡ Some x → P x
all_at P [] i x h there = absurd (cc)
all_at P (y ∷ xs) zero x h there = (let same : y ≡ x = cc in subst P same h.0)
all_at P (y ∷ xs) (suc i) x h there = all_at P xs i x h.1 there

-- it is a loop of the plan
abbrev pub IsLoopOf : PlainPlan → Counting → Type 0
IsLoopOf plan c = (i : ℕ) × (slice_get (countings plan.body) i ≡ Some c)

-- one that has turns
abbrev pub IsTurningLoop : PlainPlan → Counting → Type 0
IsTurningLoop plan c = IsLoopOf plan c × (0 < c.turns)

-- each loop that has turns is in one
abbrev pub CountersBelow : PlainPlan → (registers : List ℕ) → Type 0
CountersBelow plan registers = (i : ℕ) (c : Counting) → slice_get (countings plan.body) i ≡ Some c → 0 < c.turns → slice_index registers c.counter < c.turns

-- what registers keep in a run
abbrev pub RegistersStand : PlainPlan → (registers : List ℕ) → Type 0
RegistersStand plan registers = FitKinds plan.registers registers × CountersBelow plan registers

one_loop : (cs : List Counting) (i j : ℕ) (c d : Counting) → i ≡ j → slice_get cs i ≡ Some c → slice_get cs j ≡ Some d → c ≡ d
one_loop cs i j c d same at_i at_j =
    let both : Some c ≡ Some d = sym at_i ∙ (ap (λ (k : ℕ). slice_get cs k) same ∙ at_j) in
    cc

-- the counter of a loop is set to a turn of it
counted_set : (plan : PlainPlan) (registers : List ℕ) → AreCounters plan (countings plan.body) → (c : Counting) → IsLoopOf plan c → (v : ℕ) → v < c.turns
    → CountersBelow plan registers → CountersBelow plan (slice_set registers c.counter v)
counted_set plan registers counters c loop v small counted j d there some =
    elim (cases_eq d.counter c.counter) [
      | inl same ↦
          subst (λ (x : Counting). slice_index (slice_set registers c.counter v) x.counter < x.turns)
          (one_loop (countings plan.body) loop.0 j c d (counters.apart loop.0 j c d loop.1 there (sym same)) loop.1 there)
          (set_small registers c.counter v c.turns small)
      | inr other ↦ subst (λ (x : ℕ). x < d.turns) (sym (get_or-set_other registers c.counter d.counter v 0 other)) (counted j d there some)
    ]

-- a loop ends
pub left_stands : (plan : PlainPlan) (registers : List ℕ) → AreCounters plan (countings plan.body) → (c : Counting) → IsTurningLoop plan c
    → RegistersStand plan registers → RegistersStand plan (slice_set registers c.counter 0)
left_stands plan registers counters c turning h = (
  set_fits plan.registers registers c.counter 0 h.0 (pow_pos (width_of (kind_at plan.registers c.counter))),
  counted_set plan registers counters c turning.0 0 turning.1 h.1,
)

one_more : (x turns m : ℕ) → x < turns → (x == turns - 1) ≡ false → turns ≤ m → (x + 1) % m < turns
one_more x turns m below more wide =
    let next : x + 1 < turns = grind (arith, nat_tests) in
    let fits : x + 1 < m = omega (arith, next, wide) in
    subst (λ (y : ℕ). y < turns) (sym (mod-eq_of_lt fits)) next

-- a loop goes on to its next turn
pub counted_stands : (plan : PlainPlan) (registers : List ℕ) → AreCounters plan (countings plan.body) → (c : Counting) → IsTurningLoop plan c
    → (slice_index registers c.counter == c.turns - 1) ≡ false → RegistersStand plan registers → RegistersStand plan (counted_up plan.registers c.counter registers)
counted_stands plan registers counters c turning more h =
    let counts = all_at (CountsTurns plan) (countings plan.body) turning.0.0 c counters.wide turning.0.1 in
    let small = subst (λ (k : Kind). (slice_index registers c.counter + 1) % 2 ^ width_of k < c.turns) (sym counts.1.1.0)
    (one_more (slice_index registers c.counter) c.turns (2 ^ counts.1.0) (h.1 turning.0.0 c turning.0.1 turning.1) more counts.1.1.1) in (
      set_fits plan.registers registers c.counter _ h.0 (counted_small plan.registers c.counter (slice_index registers c.counter)),
      counted_set plan registers counters c turning.0 _ small h.1,
    )

-- no operation of a step sets what no operation sets
pub step_spares : (plan : PlainPlan) (s : StepStart) (register : ℕ) → IsNeverSet plan register → (blocks registers : List ℕ)
    → slice_index (all_set (step_sets plan s blocks) registers) register ≡ slice_index registers register
step_spares plan s register never [] registers = refl
step_spares plan s register never (b ∷ bs) registers =
    ap (λ (rs : List ℕ). slice_index rs register) (sets_in_order (sets_of_block plan s b) (step_sets plan s bs) registers)
    ∙ (step_spares plan s register never bs (all_set (sets_of_block plan s b) registers)
    ∙ sets_stay (first_in plan b) (block_values plan s b) (operations_in plan b) register (λ i guard value there. never b i guard value there) registers)

pub step_counted : (plan : PlainPlan) (s : StepStart) → AllByRecursion (KeepsCounter plan) (countings plan.body) → (blocks registers : List ℕ)
    → CountersBelow plan registers → CountersBelow plan (all_set (step_sets plan s blocks) registers)
step_counted plan s kept blocks registers counted i c there some =
    subst (λ (x : ℕ). x < c.turns) (sym (step_spares plan s c.counter (all_at (KeepsCounter plan) (countings plan.body) i c kept there) blocks registers)) (counted i c there some)

-- a run begins with 0 in all registers
pub first_stands : (plan : PlainPlan) → RegistersStand plan (first_registers plan)
first_stands plan = (
  record {
    long = length-replicate (length plan.registers) 0;
    small = λ r. subst (λ (x : ℕ). x < 2 ^ width_of (kind_at plan.registers r)) (sym (zero_at (length plan.registers) r)) (pow_pos (width_of (kind_at plan.registers r)));
  },
  λ i c there some. subst (λ (x : ℕ). x < c.turns) (sym (zero_at (length plan.registers) c.counter)) some,
)
