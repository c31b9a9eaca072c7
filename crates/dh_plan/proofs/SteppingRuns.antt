-- The run of a well-formed plan from memories that fit: by induction on its steps, registers and memories fit, and it
-- stands in the plan (`PlaceStands`). A step with a fault changes neither, and the run has then ended or faulted.
use Rattle.std.proofs.Common.{◌≡◌, ℕ, zero, suc, ◌<◌, Some, None, List, refl}
use Rattle.std.specs.Prelude.{[], ◌∷◌, false, slice_get, slice_index, Option}
use Rattle.std.specs.List.{AllByRecursion}
use Rattle.dh_base.specs.declared.outcomes.FaultKind.{FaultKind}
use Rattle.dh_base.specs.declared.outcomes.Outcome.{Outcome}
use Rattle.dh_base.specs.declared.outcomes.Outcome.TheVariants.{Going, Ended, Faulted, Stuck}
use Rattle.dh_base.specs.declared.places.Place as source
use Rattle.dh_tree.specs.Tables.{Fits}
use Rattle.dh_plan.specs.Blocks.{BlockEvent, first_fault, RegisterSet, puts_of, all_put, all_set}
use Rattle.dh_plan.specs.PlainPlans.{PlainPlan}
use Rattle.dh_plan.specs.PlanRuns.{over, PlanPlace, ended, at, inside, PlanNext, plan_next, has_ended, plan_enter, plan_place_after, start_at, blocks_at, step_events, step_sets, PlanState, plan_outcome_at, plan_stands_at, outcome_named, plan_state_after, plan_step_from, first_registers, plan_state}
use Rattle.dh_plan.specs.SoundPlans.{Counting, countings, IsFormed}
use Rattle.dh_plan.specs.SoundRuns.{RunsMakeSteps}
use Rattle.dh_plan.proofs.FittingEffects.{step_sets_fit, step_events_fit, all_set_fit, puts_fit, all_put_fit}
use Rattle.dh_plan.proofs.StandingPlaces.{NodesCome, PlaceStands, NextStands, enter_stands, after_stands, place_steps}
use Rattle.dh_plan.proofs.TurnsKept.{IsLoopOf, IsTurningLoop, RegistersStand, step_counted, first_stands}
use Rattle.dh_plan.proofs.ValuesAlike.{all_map}

-- what a run keeps
record PlanStands (plan : PlainPlan) (s : PlanState) : Type 0 where
  place : PlaceStands plan plan.body [] s.place
  registers : RegistersStand plan s.registers
  memories : Fits plan.table s.memories
  going : s.outcome ≡ Going → has_ended s.place ≡ false

going_at : (p : PlanPlace) → plan_outcome_at p ≡ Going → has_ended p ≡ false
going_at ended e = absurd (cc)
going_at (at block k) e = refl
going_at (inside ps k) e = refl

stands_at_next : (plan : PlainPlan) (steps : ℕ) (memories : List (List ℕ)) (n : PlanNext) → NextStands plan plan.body [] n → Fits plan.table memories
    → PlanStands plan (plan_stands_at steps memories n)
stands_at_next plan steps memories n h fits = record { place = h.0; registers = h.1; memories = fits; going = going_at n.place }

-- a fault is not how a run goes on
named_ends : (o : Option (FaultKind × source.Place)) → outcome_named o ≡ Going → ⊥
named_ends None e = cc
named_ends (Some f) e = cc

finish : (plan : PlainPlan) (s : PlanState) (events : List BlockEvent) (sets : List RegisterSet) (fault : Option ℕ) → PlanStands plan s
    → PlanStands plan (plan_state_after plan s events sets None) → PlanStands plan (plan_state_after plan s events sets fault)
finish plan s events sets None before after = after
finish plan s events sets (Some fault) before after =
    record { place = before.place; registers = before.registers; memories = before.memories; going = λ e. absurd (named_ends (slice_get plan.faults fault) e) }

step_stands : (plan : PlainPlan) → IsFormed plan → (s : PlanState) → PlanStands plan s → PlanStands plan (plan_step_from plan s Going)
step_stands plan formed s h =
    let start = start_at plan s.registers s.memories in
    let blocks = blocks_at s.place in
    let events = step_events plan start blocks in
    let sets = step_sets plan start blocks in
    let fit = all_set_fit plan.registers sets s.registers (step_sets_fit plan formed.blocks s.registers s.memories h.registers.0 h.memories blocks) h.registers.0 in
    let counted = step_counted plan start formed.counters_kept blocks s.registers h.registers.1 in
    let fits = all_put_fit plan.table (puts_of events) s.memories (puts_fit plan.table events (step_events_fit plan formed.blocks s.registers s.memories h.registers.0 h.memories blocks)) h.memories in
    finish plan s events sets (first_fault events) h
    (stands_at_next plan (suc s.steps) (all_put (puts_of events) s.memories) (plan_place_after plan.registers s.place (all_set sets s.registers))
    (after_stands plan formed.counters plan.body [] s.place (all_set sets s.registers) h.place (fit, counted)) fits)

by_outcome : (plan : PlainPlan) → IsFormed plan → (o : Outcome) (s : PlanState) → PlanStands plan s → PlanStands plan (plan_step_from plan s o)
by_outcome plan formed Going s h = step_stands plan formed s h
by_outcome plan formed Ended s h = h
by_outcome plan formed (Faulted kind place) s h = h
by_outcome plan formed (Stuck memory bank place) s h = h

-- each loop of the plan is one
own_loops : (cs : List Counting) (P : Counting → Type 0) → ((i : ℕ) (c : Counting) → slice_get cs i ≡ Some c → P c) → AllByRecursion P cs
own_loops [] P h = tt
own_loops (c ∷ cs) P h = (h 0 c refl, own_loops cs P (λ i d there. h (suc i) d there))

runs_stand : (plan : PlainPlan) (memories : List (List ℕ)) → IsFormed plan → Fits plan.table memories → (n : ℕ) → PlanStands plan (plan_state plan memories n)
runs_stand plan memories formed fits zero =
    let comes : NodesCome plan plan.body [] [] plan.body = ((λ bs ls s. s), own_loops (countings plan.body) (IsLoopOf plan) (λ i c there. (i, there))) in
    stands_at_next plan 0 memories (plan_enter plan.body over (plan_next ended (first_registers plan)) (first_registers plan))
    (enter_stands plan plan.body [] plan.body over (plan_next ended (first_registers plan)) (first_registers plan) comes tt (tt, first_stands plan) (first_stands plan)) fits
runs_stand plan memories formed fits (suc n) =
    let before = runs_stand plan memories formed fits n in
    by_outcome plan formed (plan_state plan memories n).outcome (plan_state plan memories n) before

pub runs_make_steps : RunsMakeSteps
runs_make_steps plan memories formed fits n =
    let s = plan_state plan memories n in
    let h = runs_stand plan memories formed fits n in
    record {
      fit = h.registers.0;
      memories_fit = h.memories;
      step = λ going.
          let found = place_steps plan plan.body [] s.place h.place (h.going going) tt in
          record {
            loops = found.0;
            step = found.1.0;
            turns = all_map (IsTurningLoop plan) (λ c. slice_index s.registers c.counter < c.turns) found.0 (λ c t. h.registers.1 t.0.0 c t.0.1 t.1) found.1.1;
          };
    }
