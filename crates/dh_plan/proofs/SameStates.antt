-- Two plans whose blocks do the same in each step of the first run as one: by induction on steps the two states are
-- equal, since each step of the first is one of its steps, and each of its blocks is one by itself.
use Rattle.std.proofs.Common.{◌≡◌, ℕ, zero, suc, inl, inr, Some, None, List, refl, sym, ap, ◌∙◌}
use Rattle.std.specs.Prelude.{[], ◌∷◌, ◌++◌, slice_get, Option}
use Rattle.dh_base.specs.declared.outcomes.FaultKind.{FaultKind}
use Rattle.dh_base.specs.declared.outcomes.Outcome.{Outcome}
use Rattle.dh_base.specs.declared.outcomes.Outcome.TheVariants.{Going, Ended, Faulted, Stuck}
use Rattle.dh_base.specs.declared.places.Place as source
use Rattle.dh_value.specs.declared.kinds.Kind.{Kind}
use Rattle.dh_tree.specs.Tables.{Fits}
use Rattle.dh_plan.specs.AlikeRuns.{DoesAlike, BlocksDoAlike, PlansRunAlike}
use Rattle.dh_plan.specs.BlockLaws.{fault_or}
use Rattle.dh_plan.specs.Blocks.{BlockEvent, first_fault, RegisterSet, Put, puts_of, all_put, all_set}
use Rattle.dh_plan.specs.PlainPlans.{Nodes, PlainPlan}
use Rattle.dh_plan.specs.PlanRuns.{over, plan_next, ended, plan_enter, plan_place_after, start_at, blocks_at, events_of_block, sets_of_block, step_events, step_sets, PlanState, plan_stands_at, outcome_named, plan_state_after, plan_step_from, first_registers, first_plan_state, plan_state}
use Rattle.dh_plan.specs.SoundPlans.{IsOneOf, IsFormed}
use Rattle.dh_plan.specs.SoundRuns.{StandsInStep}
use Rattle.dh_plan.proofs.Appends.{fault_behind, puts_behind}
use Rattle.dh_plan.proofs.StepsAlone.{blocks_step_alone}
use Rattle.dh_plan.proofs.SteppingRuns.{runs_make_steps}

-- neither has a fault where both together have none
first_none : (a b : Option ℕ) → fault_or a b ≡ None → a ≡ None
first_none None b e = refl
first_none (Some f) b e = absurd (cc)

second_none : (a b : Option ℕ) → fault_or a b ≡ None → b ≡ None
second_none None b e = e
second_none (Some f) b e = absurd (cc)

-- Blocks of a step, in order.
module _ (p q : PlainPlan) (registers : List ℕ) (memories : List (List ℕ)) where
  abbrev AllAlike : List ℕ → Type 0
  AllAlike blocks = (b : ℕ) → IsOneOf b blocks → DoesAlike p q b registers memories

  abbrev fault_of : PlainPlan → List ℕ → Option ℕ
  fault_of plan blocks = first_fault (step_events plan (start_at plan registers memories) blocks)

  split : (plan : PlainPlan) (b : ℕ) (bs : List ℕ) → fault_of plan (b ∷ bs) ≡ fault_or (first_fault (events_of_block plan (start_at plan registers memories) b)) (fault_of plan bs)
  split plan b bs = fault_behind (events_of_block plan (start_at plan registers memories) b) (step_events plan (start_at plan registers memories) bs)

  step_fault : (blocks : List ℕ) → AllAlike blocks → fault_of q blocks ≡ fault_of p blocks
  step_fault [] h = refl
  step_fault (b ∷ bs) h =
      let here = (h b (inl refl)).fault in
      let rest = step_fault bs (λ c one. h c (inr one)) in
      split q b bs
      ∙ (ap (λ (f : Option ℕ). fault_or f (fault_of q bs)) here
      ∙ (ap (λ (f : Option ℕ). fault_or (first_fault (events_of_block p (start_at p registers memories) b)) f) rest ∙ sym (split p b bs)))

  step_puts : (blocks : List ℕ) → AllAlike blocks → fault_of p blocks ≡ None
      → puts_of (step_events q (start_at q registers memories) blocks) ≡ puts_of (step_events p (start_at p registers memories) blocks)
  step_puts [] h none = refl
  step_puts (b ∷ bs) h none =
      let both = sym (split p b bs) ∙ none in
      let here = (h b (inl refl)).puts (first_none _ (fault_of p bs) both) in
      let rest = step_puts bs (λ c one. h c (inr one)) (second_none (first_fault (events_of_block p (start_at p registers memories) b)) _ both) in
      puts_behind (events_of_block q (start_at q registers memories) b) (step_events q (start_at q registers memories) bs)
      ∙ (ap (λ (ps : List Put). ps ++ puts_of (step_events q (start_at q registers memories) bs)) here
      ∙ (ap (λ (ps : List Put). puts_of (events_of_block p (start_at p registers memories) b) ++ ps) rest
      ∙ sym (puts_behind (events_of_block p (start_at p registers memories) b) (step_events p (start_at p registers memories) bs))))

  sets_same : (blocks : List ℕ) → AllAlike blocks → fault_of p blocks ≡ None
      → step_sets q (start_at q registers memories) blocks ≡ step_sets p (start_at p registers memories) blocks
  sets_same [] h none = refl
  sets_same (b ∷ bs) h none =
      let both = sym (split p b bs) ∙ none in
      let here = (h b (inl refl)).sets (first_none _ (fault_of p bs) both) in
      let rest = sets_same bs (λ c one. h c (inr one)) (second_none (first_fault (events_of_block p (start_at p registers memories) b)) _ both) in
      ap (λ (ss : List RegisterSet). ss ++ step_sets q (start_at q registers memories) bs) here
      ∙ ap (λ (ss : List RegisterSet). sets_of_block p (start_at p registers memories) b ++ ss) rest

-- States.

-- the state behind a step, by what it does
after_same : (p q : PlainPlan) → q.registers ≡ p.registers → q.faults ≡ p.faults → (s : PlanState) (es fs : List BlockEvent) (ss ts : List RegisterSet) (fault : Option ℕ)
    → (fault ≡ None → puts_of es ≡ puts_of fs) → (fault ≡ None → ss ≡ ts) → plan_state_after q s es ss fault ≡ plan_state_after p s fs ts fault
after_same p q kinds faults s es fs ss ts None puts sets =
    ap (λ (ks : List Kind). plan_stands_at (suc s.steps) (all_put (puts_of es) s.memories) (plan_place_after ks s.place (all_set ss s.registers))) kinds
    ∙ (ap (λ (ps : List Put). plan_stands_at (suc s.steps) (all_put ps s.memories) (plan_place_after p.registers s.place (all_set ss s.registers))) (puts refl)
    ∙ ap (λ (rs : List RegisterSet). plan_stands_at (suc s.steps) (all_put (puts_of fs) s.memories) (plan_place_after p.registers s.place (all_set rs s.registers))) (sets refl))
after_same p q kinds faults s es fs ss ts (Some fault) puts sets =
    ap (λ (named : List (FaultKind × source.Place)). record s { outcome = outcome_named (slice_get named fault) }) faults

step_same : (p q : PlainPlan) → q.registers ≡ p.registers → q.faults ≡ p.faults → BlocksDoAlike p q → (s : PlanState) → StandsInStep p s → s.outcome ≡ Going
    → plan_step_from q s Going ≡ plan_step_from p s Going
step_same p q kinds faults alike s stands going =
    let blocks = blocks_at s.place in
    let each : (b : ℕ) → IsOneOf b blocks → DoesAlike p q b s.registers s.memories =
    λ b one. let own = blocks_step_alone p s.registers blocks (stands.step going) b one in
    alike b own.loops own.step s.registers s.memories stands.fit stands.memories_fit own.turns in
    let fault = step_fault p q s.registers s.memories blocks each in
    ap (λ (f : Option ℕ). plan_state_after q s (step_events q (start_at q s.registers s.memories) blocks) (step_sets q (start_at q s.registers s.memories) blocks) f) fault
    ∙ after_same p q kinds faults s (step_events q (start_at q s.registers s.memories) blocks) (step_events p (start_at p s.registers s.memories) blocks)
    (step_sets q (start_at q s.registers s.memories) blocks) (step_sets p (start_at p s.registers s.memories) blocks) (fault_of p q s.registers s.memories p blocks) (step_puts p q s.registers s.memories blocks each) (sets_same p q s.registers s.memories blocks each)

by_outcome : (p q : PlainPlan) → q.registers ≡ p.registers → q.faults ≡ p.faults → BlocksDoAlike p q → (o : Outcome) (s : PlanState) → StandsInStep p s → s.outcome ≡ o
    → plan_step_from q s o ≡ plan_step_from p s o
by_outcome p q kinds faults alike Going s stands e = step_same p q kinds faults alike s stands e
by_outcome p q kinds faults alike Ended s stands e = refl
by_outcome p q kinds faults alike (Faulted kind place) s stands e = refl
by_outcome p q kinds faults alike (Stuck memory bank place) s stands e = refl

-- how a run begins, by the nodes and the registers
abbrev begin_at : (memories : List (List ℕ)) → Nodes → (registers : List ℕ) → PlanState
begin_at memories body registers = plan_stands_at 0 memories (plan_enter body over (plan_next ended registers) registers)

first_same : (p q : PlainPlan) (memories : List (List ℕ)) → q.registers ≡ p.registers → q.body ≡ p.body → first_plan_state q memories ≡ first_plan_state p memories
first_same p q memories kinds body =
    ap (λ (ns : Nodes). begin_at memories ns (first_registers q)) body
    ∙ ap (λ (ks : List Kind). begin_at memories p.body (first_registers (record p { registers = ks }))) kinds

states_same : (p q : PlainPlan) → IsFormed p → q.registers ≡ p.registers → q.body ≡ p.body → q.faults ≡ p.faults → BlocksDoAlike p q
    → (memories : List (List ℕ)) → Fits p.table memories → (n : ℕ) → plan_state q memories n ≡ plan_state p memories n
states_same p q formed kinds body faults alike memories fits zero = first_same p q memories kinds body
states_same p q formed kinds body faults alike memories fits (suc n) =
    let s = plan_state p memories n in
    ap (λ (t : PlanState). plan_step_from q t t.outcome) (states_same p q formed kinds body faults alike memories fits n)
    ∙ by_outcome p q kinds faults alike s.outcome s (runs_make_steps p memories formed fits n) refl

pub plans_run_alike : PlansRunAlike
plans_run_alike p q formed kinds body faults alike =
    record {
      outcome = λ memories n fits. ap (λ (s : PlanState). s.outcome) (states_same p q formed kinds body faults alike memories fits n);
      steps = λ memories n fits. ap (λ (s : PlanState). s.steps) (states_same p q formed kinds body faults alike memories fits n);
      memories_same = λ memories n fits. ap (λ (s : PlanState). s.memories) (states_same p q formed kinds body faults alike memories fits n);
      places = λ memories n fits. ap (λ (s : PlanState). s.place) (states_same p q formed kinds body faults alike memories fits n);
    }
