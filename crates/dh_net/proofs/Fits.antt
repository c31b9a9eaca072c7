-- How many steps of a run fit into a number of clocks.
-- A run that has ended, or has faulted, after n steps has no more than n steps: in each of them but the last
-- it was going, and each was without fault. So there is one end or one fault, and never both.
-- The clocks of the first n steps rise with n, so n is the greatest number of steps that fit into c clocks
-- where clock c lies in the step after n steps, or where no step follows.
use Rattle.std.proofs.Common.{◌≡◌, ◌↔◌, ℕ, ◌+◌, ◌<◌, ◌≤◌, zero, suc, inl, inr, ap, subst, arith}
use Rattle.std.proofs.lemmas.Bool.{cases_lt}
use Rattle.dh_base.specs.declared.outcomes.FaultKind.{FaultKind}
use Rattle.dh_base.specs.declared.outcomes.Outcome.{Outcome}
use Rattle.dh_base.specs.declared.outcomes.Outcome.TheVariants.{Ended, Faulted}
use Rattle.dh_base.specs.declared.places.Place.{Place}
use Rattle.dh_net.specs.Plays.{TakesClocks, Run, clocks_of, IsGoing, IsFine, HasSteps, EndsAfter, FaultsAfter, FaultsWithin, Fit}

-- an outcome is not both
pub going_not_ended : (o : Outcome) → IsGoing o → o ≡ Ended → ⊥
going_not_ended o going ended = subst (λ (x : Outcome). IsGoing x) ended going

pub fine_not_faulted : (o : Outcome) (kind : FaultKind) (place : Place) → IsFine o → o ≡ Faulted kind place → ⊥
fine_not_faulted o kind place fine faulted = subst (λ (x : Outcome). IsFine x) faulted fine

-- no steps beyond the end, or beyond the fault
pub steps_to_end : (r : Run) (m n : ℕ) → HasSteps r m → EndsAfter r n → m ≤ n
steps_to_end r m n steps ends =
    elim (cases_lt n m) [ inl more ↦ absurd (going_not_ended _ (steps n more).0 ends.ended) | inr within ↦ within ]

pub steps_to_fault : (r : Run) (m n : ℕ) (kind : FaultKind) (place : Place) → HasSteps r m → FaultsAfter r n kind place → m ≤ n
steps_to_fault r m n kind place steps faults =
    elim (cases_lt n m) [ inl more ↦ absurd (fine_not_faulted _ kind place (steps n more).1 faults.faulted) | inr within ↦ within ]

pub one_end : (r : Run) (m n : ℕ) → EndsAfter r m → EndsAfter r n → m ≡ n
one_end r m n p q =
    let x = steps_to_end r m n p.steps q in
    let y = steps_to_end r n m q.steps p in
    omega arith

pub one_fault : (r : Run) (m n : ℕ) (kind kind' : FaultKind) (place place' : Place)
    → FaultsAfter r m kind place → FaultsAfter r n kind' place' → m ≡ n
one_fault r m n kind kind' place place' p q =
    let x = steps_to_fault r m n kind' place' p.steps q in
    let y = steps_to_fault r n m kind place q.steps p in
    omega arith

pub no_fault_at_end : (r : Run) (m n : ℕ) (kind : FaultKind) (place : Place) → EndsAfter r m → FaultsAfter r n kind place → ⊥
no_fault_at_end r m n kind place p q =
    let x = steps_to_fault r m n kind place p.steps q in
    let y = steps_to_end r n m q.steps p in
    let same : n ≡ m = omega arith in
    going_not_ended _ (subst (λ (k : ℕ). IsGoing (r.outcome k)) same q.going) p.ended

-- one step more, and one fewer
pub steps_more : (r : Run) (n : ℕ) → HasSteps r n → IsGoing (r.outcome n) → IsFine (r.outcome (suc n)) → HasSteps r (suc n)
steps_more r n steps going fine k below =
    elim (cases_lt k n) [
      | inl small ↦ steps k small
      | inr large ↦
          let same : n ≡ k = omega arith in
          subst (λ (i : ℕ). IsGoing (r.outcome i) × IsFine (r.outcome (suc i))) same (going, fine)
    ]

pub steps_fewer : (r : Run) (n : ℕ) → HasSteps r (suc n) → HasSteps r n
steps_fewer r n steps k below = steps k (omega arith)

pub last_going : (r : Run) (n : ℕ) → HasSteps r (suc n) → IsGoing (r.outcome n)
last_going r n steps = (steps n (omega arith)).0

-- the clocks of more steps
pub clocks_rise : (r : Run) (m n : ℕ) → m ≤ n → clocks_of r m ≤ clocks_of r n
clocks_rise r m zero within =
    let same : m ≡ 0 = omega arith in
    let clocks : clocks_of r m ≡ clocks_of r 0 = ap (clocks_of r) same in
    omega arith
clocks_rise r m (suc n) within =
    elim (cases_lt n m) [
      | inl more ↦
          let same : m ≡ suc n = omega arith in
          let clocks : clocks_of r m ≡ clocks_of r (suc n) = ap (clocks_of r) same in
          omega arith
      | inr small ↦
          let before = clocks_rise r m n small in
          omega arith
    ]

pub clocks_pass : (r : Run) (n : ℕ) → TakesClocks r → HasSteps r n → 0 < n → 0 < clocks_of r n
clocks_pass r zero takes steps some_step = absurd (omega arith)
clocks_pass r (suc n) takes steps some_step =
    let more : 1 ≤ r.length n = takes n (steps_fewer r n steps) (last_going r n steps) in
    omega arith

-- the number of steps that fit
pub one_fit : (r : Run) (c m n : ℕ) → Fit r c m → Fit r c n → m ≡ n
one_fit r c m n p q =
    let x = p.greatest n q.steps q.within in
    let y = q.greatest m p.steps p.within in
    omega arith

pub fit_in_step : (r : Run) (c n j : ℕ) → HasSteps r n → j < r.length n → c ≡ clocks_of r n + j → Fit r c n
fit_in_step r c n j steps early at =
    record {
      steps = steps;
      within = omega arith;
      greatest = λ m more fits. elim (cases_lt n m) [
        | inl beyond ↦
            let rises : clocks_of r (suc n) ≤ clocks_of r m = clocks_rise r (suc n) m (omega arith) in
            absurd (omega arith)
        | inr within ↦ within
      ];
    }

pub fit_at_end : (r : Run) (c n : ℕ) → EndsAfter r n → clocks_of r n ≤ c → Fit r c n
fit_at_end r c n ends within =
    record { steps = ends.steps; within = within; greatest = λ m steps fits. steps_to_end r m n steps ends }

pub fit_at_fault : (r : Run) (c n : ℕ) (kind : FaultKind) (place : Place) → FaultsAfter r n kind place → clocks_of r n ≤ c → Fit r c n
fit_at_fault r c n kind place faults within =
    record { steps = faults.steps; within = within; greatest = λ m steps fits. steps_to_fault r m n kind place steps faults }

-- the end and the fault come after each step in which the run is going
pub not_ended_within : (r : Run) (c n m : ℕ) → Fit r c n → IsGoing (r.outcome n) → EndsAfter r m → clocks_of r m ≤ c → ⊥
not_ended_within r c n m fit going ends within =
    let x = fit.greatest m ends.steps within in
    let y = steps_to_end r n m fit.steps ends in
    let same : n ≡ m = omega arith in
    going_not_ended _ (subst (λ (k : ℕ). IsGoing (r.outcome k)) same going) ends.ended

pub not_faulted_within : (r : Run) (c n j : ℕ) → Fit r c n → j < r.length n → c ≡ clocks_of r n + j → FaultsWithin r c → ⊥
not_faulted_within r c n j fit early at faults =
    let x : faults.after ≤ n = fit.greatest faults.after faults.faults.steps (omega arith) in
    let y = steps_to_fault r n faults.after faults.kind faults.place fit.steps faults.faults in
    let same : n ≡ faults.after = omega arith in
    let clocks : clocks_of r (suc n) ≡ clocks_of r (suc faults.after) = ap (λ k. clocks_of r (suc k)) same in
    let within = faults.within in
    omega arith

-- the first clock of a step, said of the clocks from the start
pub first_clock : (r : Run) (P : Type 0) (c n j : ℕ) → TakesClocks r → HasSteps r n → c ≡ clocks_of r n + j
    → (P ↔ ((0 < n) × (j ≡ 0))) → P ↔ ((0 < c) × (c ≡ clocks_of r n))
first_clock r P c n j takes steps at iff = (forth, back)
  where
    forth : P → (0 < c) × (c ≡ clocks_of r n)
    forth p =
        let x = iff.0 p in
        let some_step = x.0 in
        let first = x.1 in
        let pass = clocks_pass r n takes steps some_step in
        (omega arith, omega arith)

    some_step : (k : ℕ) → 0 < clocks_of r k → 0 < k
    some_step zero pass = pass
    some_step (suc k) pass = omega arith

    back : (0 < c) × (c ≡ clocks_of r n) → P
    back x =
        let pass = x.0 in
        let first = x.1 in
        iff.1 (some_step n (omega arith), omega arith)
