-- The graph of a plan does the plan, from the facts of all its nodes.
use Rattle.std.proofs.Common.{◌≡◌, ℕ, zero, suc, ◌+◌, List, ◌∷◌, Option, Some, None, option_map, refl, ap, ◌∙◌, subst, arith}
use Rattle.std.specs.Prelude.{slice_get}
use Rattle.std.proofs.lemmas.Option.{slice_get-map}
use Rattle.dh_value.specs.declared.kinds.Kind.{Kind}
use Rattle.dh_plan.specs.PlainPlans.{PlainPlan}
use Rattle.dh_plan.specs.PlanRuns.{over, plan_next, ended, plan_next_of}
use Rattle.dh_plan.specs.Ways.{to_end, FlowsAs, way_of_stop, way_of_join}
use Rattle.dh_flow.specs.PlainFlows.{PlacedState, Forked, nodes_forked, own_group, plan_states, plan_groups, stop_of, flow_of}
use Rattle.dh_flow.proofs.PlacedLists.{sits_whole, at_place}
use Rattle.dh_flow.proofs.WaysDo.{behind_of, after_of, to_come, to_join, leads, Here, StateDoes, JoinDoes, enters, nodes_do}

module _ (kinds : List Kind) (ps : List PlacedState) (fs : List Forked) where
  state_does : (o : Option PlacedState) → ((p : PlacedState) → o ≡ Some p → StateDoes kinds ps fs p) → (registers : List ℕ) → leads kinds ps fs (way_of_stop (option_map stop_of o)) registers ≡ plan_next_of kinds (behind_of o) registers
  state_does None so registers = refl
  state_does (Some p) so registers = so p refl registers

  join_does : (o : Option Forked) → ((f : Forked) → o ≡ Some f → JoinDoes kinds ps fs f) → (registers : List ℕ) → leads kinds ps fs (way_of_join (option_map (λ f. f.join) o)) registers ≡ plan_next_of kinds (after_of o) registers
  join_does None so registers = refl
  join_does (Some f) so registers = so f refl registers

second : {A : Type 0} (y : A) (ys : List A) (i j : ℕ) (x : A) → j ≡ 1 + i → slice_get ys i ≡ Some x → slice_get (y ∷ ys) j ≡ Some x
second y ys i zero x e at = absurd (omega (arith, e))
second y ys i (suc j) x e at = subst (λ (n : ℕ). slice_get ys n ≡ Some x) (omega (arith, e)) at

-- all of it sits there
pub here_whole : (plan : PlainPlan) → Here plan.registers (plan_states plan.body) (plan_groups plan.body) plan.body 0 1 0 to_end over
here_whole plan =
    let fs = nodes_forked plan.body 0 1 0 to_end over in
    (sits_whole (plan_states plan.body), record { found = λ i j x e at. second (own_group plan.body) fs i j x e at })

pub flow_does : (plan : PlainPlan) → FlowsAs (flow_of plan.body) plan
flow_does plan =
    let kinds = plan.registers in
    let body = plan.body in
    let ps = plan_states body in
    let fs = plan_groups body in
    let here = here_whole plan in
    let all = nodes_do kinds ps fs body 0 1 0 to_end over here (λ registers. refl) in
    record {
      behind = to_come kinds ps fs;
      after = to_join kinds ps fs;
      first = λ registers. enters kinds ps fs body 0 1 0 to_end to_end over (plan_next ended registers) registers here refl;
      each = λ state registers.
          ap (λ o. leads kinds ps fs (way_of_stop o) registers) (slice_get-map stop_of ps state)
          ∙ state_does kinds ps fs (slice_get ps state) (λ p e. at_place (StateDoes kinds ps fs) ps state p all.0 e) registers;
      joined = λ fork registers.
          ap (λ o. leads kinds ps fs (way_of_join o) registers) (slice_get-map (λ f. f.join) fs fork)
          ∙ join_does kinds ps fs (slice_get fs fork) (λ f e. at_place (JoinDoes kinds ps fs) fs fork f ((λ registers. refl), all.1) e) registers;
    }
