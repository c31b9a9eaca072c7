-- How a run of a plan stands behind a step, by the step's fault. A run is never stuck; a step without fault goes on or
-- ends, and one with a fault, which the plan names where its blocks are formed, stands at that fault.
use Rattle.std.proofs.Common.{◌≡◌, ℕ, zero, suc, ◌<◌, inl, inr, Some, None, List, length, refl, sym, ap, ◌∙◌, arith}
use Rattle.std.specs.Prelude.{[], ◌∷◌, Option, slice_get}
use Rattle.std.specs.List.{AllByRecursion}
use Rattle.std.proofs.lemmas.Option.{slice_get_cases}
use Rattle.dh_base.specs.declared.outcomes.FaultKind.{FaultKind}
use Rattle.dh_base.specs.declared.outcomes.Outcome.{Outcome}
use Rattle.dh_base.specs.declared.outcomes.Outcome.TheVariants.{Going, Ended, Faulted, Stuck}
use Rattle.dh_base.specs.declared.places.Place as source
use Rattle.dh_tree.specs.Elements.{Spot}
use Rattle.dh_value.specs.declared.kinds.Kind.{Kind}
use Rattle.dh_value.specs.declared.words.Word.{Word}
use Rattle.dh_value.specs.Operations.{is_true}
use Rattle.dh_net.specs.Plays.{IsGoing, IsStuck, IsFine}
use Rattle.dh_plan.specs.declared.operations.Operation.{Operation}
use Rattle.dh_plan.specs.declared.operations.OperationForm.{OperationForm}
use Rattle.dh_plan.specs.declared.operations.OperationForm.TheVariants.{Constant, Old, Compute, Convert, Select, Check, Probe, Read, Write, Set}
use Rattle.dh_plan.specs.Blocks.{StepStart, is_on, word_at, spot_of_reach, BlockEvent, fails, puts, fails_outside, puts_inside, operation_form_events, operation_events, block_events, RegisterSet, first_fault}
use Rattle.dh_plan.specs.PlainPlans.{PlainPlan, first_in, operations_in}
use Rattle.dh_plan.specs.PlanKinds.{kinds_of, FormSuits, OperationSuits, IsFormedBlock}
use Rattle.dh_plan.specs.PlanRuns.{PlanPlace, ended, at, inside, PlanState, start_at, blocks_at, block_values, events_of_block, step_events, step_sets, plan_outcome_at, outcome_named, plan_state_after, plan_step_from, plan_state}
use Rattle.dh_plan.proofs.FittingEffects.{all_joined}
use Rattle.dh_plan.proofs.FittingValues.{pick}

-- Outcomes.

pub going_is : (o : Outcome) → IsGoing o → o ≡ Going
going_is Going h = refl
going_is Ended h = absurd h
going_is (Faulted kind place) h = absurd h
going_is (Stuck memory bank place) h = absurd h

pub fine_at : (p : PlanPlace) → IsFine (plan_outcome_at p)
fine_at ended = tt
fine_at (at block k) = tt
fine_at (inside ps k) = tt

never_stuck_at : (p : PlanPlace) → IsStuck (plan_outcome_at p) → ⊥
never_stuck_at ended h = h
never_stuck_at (at block k) h = h
never_stuck_at (inside ps k) h = h

never_faulted_at : (p : PlanPlace) (kind : FaultKind) (place : source.Place) → plan_outcome_at p ≡ Faulted kind place → ⊥
never_faulted_at ended kind place e = cc
never_faulted_at (at block k) kind place e = cc
never_faulted_at (inside ps k) kind place e = cc

pub ended_at : (p : PlanPlace) → plan_outcome_at p ≡ Ended → p ≡ ended
ended_at ended e = refl
ended_at (at block k) e = absurd (cc)
ended_at (inside ps k) e = absurd (cc)

never_stuck_named : (x : Option (FaultKind × source.Place)) → IsStuck (outcome_named x) → ⊥
never_stuck_named None h = h
never_stuck_named (Some f) h = h

never_going_named : (x : Option (FaultKind × source.Place)) → IsGoing (outcome_named x) → ⊥
never_going_named None h = h
never_going_named (Some f) h = h

module _ (plan : PlainPlan) where
  after_never_stuck : (s : PlanState) (events : List BlockEvent) (sets : List RegisterSet) (fault : Option ℕ) → IsStuck (plan_state_after plan s events sets fault).outcome → ⊥
  after_never_stuck s events sets None h = never_stuck_at _ h
  after_never_stuck s events sets (Some fault) h = never_stuck_named (slice_get plan.faults fault) h

  from_never_stuck : (o : Outcome) (s : PlanState) → (IsStuck s.outcome → ⊥) → IsStuck (plan_step_from plan s o).outcome → ⊥
  from_never_stuck Going s h stuck =
      let start = start_at plan s.registers s.memories in
      after_never_stuck s (step_events plan start (blocks_at s.place)) (step_sets plan start (blocks_at s.place)) (first_fault (step_events plan start (blocks_at s.place))) stuck
  from_never_stuck Ended s h stuck = h stuck
  from_never_stuck (Faulted kind place) s h stuck = h stuck
  from_never_stuck (Stuck memory bank place) s h stuck = h stuck

  pub runs_never_stuck : (memories : List (List ℕ)) (n : ℕ) → IsStuck (plan_state plan memories n).outcome → ⊥
  runs_never_stuck memories zero h = never_stuck_at _ h
  runs_never_stuck memories (suc n) h = from_never_stuck (plan_state plan memories n).outcome (plan_state plan memories n) (runs_never_stuck memories n) h

  -- By the fault.

  pub going_has_none : (s : PlanState) (events : List BlockEvent) (sets : List RegisterSet) (fault : Option ℕ) → IsGoing (plan_state_after plan s events sets fault).outcome → fault ≡ None
  going_has_none s events sets None h = refl
  going_has_none s events sets (Some fault) h = absurd (never_going_named (slice_get plan.faults fault) h)

  -- a fault that there is has a name
  abbrev pub IsNamedFault : Option ℕ → Type 0
  IsNamedFault None = Unit {0}
  IsNamedFault (Some fault) = fault < length plan.faults

  named_not_ended : (x : Option (FaultKind × source.Place)) (f : FaultKind × source.Place) → x ≡ Some f → outcome_named x ≡ Ended → ⊥
  named_not_ended x f e h = (let g : Faulted f.0 f.1 ≡ Ended = sym (ap outcome_named e) ∙ h in cc)

  pub ended_has_none : (s : PlanState) (events : List BlockEvent) (sets : List RegisterSet) (fault : Option ℕ) → IsNamedFault fault → (plan_state_after plan s events sets fault).outcome ≡ Ended → fault ≡ None
  ended_has_none s events sets None named h = refl
  ended_has_none s events sets (Some fault) named h =
      elim (slice_get_cases plan.faults fault).1 [
        | inl found ↦ absurd (named_not_ended (slice_get plan.faults fault) found.0 found.2 h)
        | inr past ↦ absurd (let beyond = past.0 in omega (arith, beyond, named))
      ]

  -- the fault at which a run stands
  pub record FaultIs (fault : Option ℕ) (kind : FaultKind) (place : source.Place) : Type 0 where
    pub number : ℕ
    pub is : fault ≡ Some number
    pub names : slice_get plan.faults number ≡ Some (kind, place)

  name_is : (x : Option (FaultKind × source.Place)) (kind : FaultKind) (place : source.Place) → outcome_named x ≡ Faulted kind place → x ≡ Some (kind, place)
  name_is None kind place e = absurd (cc)
  name_is (Some f) kind place e =
      let a : f.0 ≡ kind = cc in
      let b : f.1 ≡ place = cc in
      λ n. Some (a n, b n)

  pub faulted_has : (s : PlanState) (events : List BlockEvent) (sets : List RegisterSet) (fault : Option ℕ) (kind : FaultKind) (place : source.Place)
      → (plan_state_after plan s events sets fault).outcome ≡ Faulted kind place → FaultIs fault kind place
  faulted_has s events sets None kind place h = absurd (never_faulted_at _ kind place h)
  faulted_has s events sets (Some fault) kind place h = record { number = fault; is = refl; names = name_is (slice_get plan.faults fault) kind place h }

  -- Faults of formed blocks have names.

  abbrev IsNamedEvent : BlockEvent → Type 0
  IsNamedEvent (fails fault) = fault < length plan.faults
  IsNamedEvent (puts spot bits) = Unit {0}

  puts_named : (bits : ℕ) (x : Option Spot) → AllByRecursion IsNamedEvent (puts_inside bits x)
  puts_named bits None = tt
  puts_named bits (Some spot) = (tt, tt)

  outside_named : (fault : ℕ) (x : Option Spot) → fault < length plan.faults → AllByRecursion IsNamedEvent (fails_outside fault x)
  outside_named fault None h = (h, tt)
  outside_named fault (Some spot) h = tt

  module _ (s : StepStart) (first : ℕ) (kinds : List Kind) (ws : List Word) where
    form_named : (f : OperationForm) → FormSuits plan first kinds f → AllByRecursion IsNamedEvent (operation_form_events s first ws f)
    form_named (Constant word) suits = tt
    form_named (Old register) suits = tt
    form_named (Compute op left right) suits = tt
    form_named (Convert inner to) suits = tt
    form_named (Select test a b) suits = tt
    form_named (Check ok fault) suits = pick (AllByRecursion IsNamedEvent) (is_true (word_at first ws ok)) [] (fails fault ∷ []) tt (suits.1, tt)
    form_named (Probe r fault) suits = outside_named fault (spot_of_reach s first ws r) suits.1.1
    form_named (Read r) suits = tt
    form_named (Write r value) suits = puts_named (word_at first ws value).bits (spot_of_reach s first ws r)
    form_named (Set register value) suits = tt

    block_named : (os : List Operation) → ((i : ℕ) (o : Operation) → slice_get os i ≡ Some o → OperationSuits plan first kinds o) → AllByRecursion IsNamedEvent (block_events s first ws os)
    block_named [] suits = tt
    block_named (o ∷ os) suits =
        all_joined IsNamedEvent (operation_events s first ws o) (block_events s first ws os)
        (pick (AllByRecursion IsNamedEvent) (is_on first ws o.guard) (operation_form_events s first ws o.form) [] (form_named o.form (suits 0 o refl).form) tt)
        (block_named os (λ i p there. suits (suc i) p there))

  step_named : ((block : ℕ) → IsFormedBlock plan block) → (s : StepStart) (blocks : List ℕ) → AllByRecursion IsNamedEvent (step_events plan s blocks)
  step_named formed s [] = tt
  step_named formed s (b ∷ bs) =
      all_joined IsNamedEvent (events_of_block plan s b) (step_events plan s bs)
      (block_named s (first_in plan b) (kinds_of plan b) (block_values plan s b) (operations_in plan b) (formed b).suits) (step_named formed s bs)

  first_named : (es : List BlockEvent) → AllByRecursion IsNamedEvent es → IsNamedFault (first_fault es)
  first_named [] h = tt
  first_named (fails fault ∷ es) h = h.0
  first_named (puts spot bits ∷ es) h = first_named es h.1

  pub step_fault_named : ((block : ℕ) → IsFormedBlock plan block) → (s : StepStart) (blocks : List ℕ) → IsNamedFault (first_fault (step_events plan s blocks))
  step_fault_named formed s blocks = first_named (step_events plan s blocks) (step_named formed s blocks)
