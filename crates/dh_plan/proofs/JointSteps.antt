-- One logical step of the program and of its plan, from a stand of both: they fault together, or write the same and
-- go on to one stand. And so their runs, step by step.
use Rattle.std.proofs.Common.{◌≡◌, ℕ, zero, suc, ◌<◌, Some, None, List, length, refl, sym, ap, subst, ◌∙◌}
use Rattle.std.specs.Prelude.{[], ◌∷◌, ◌++◌, ◌==◌, ◌^◌, Bool, true, false, if◌then◌else◌, replicate, slice_get, slice_index, Option}
use Rattle.std.specs.List.{AllByRecursion}
use Rattle.std.proofs.Math.Nat.{mod-eq_of_lt}
use Rattle.std.proofs.lemmas.List.{append-nil, get_or-set_other, length-replicate}
use Rattle.std.proofs.lemmas.Nat.{pow_pos}
use Rattle.dh_base.specs.declared.outcomes.FaultKind.{FaultKind}
use Rattle.dh_base.specs.declared.outcomes.Outcome.{Outcome}
use Rattle.dh_base.specs.declared.outcomes.Outcome.TheVariants.{Going, Ended, Faulted, Stuck}
use Rattle.dh_base.specs.declared.places.Place as place
use Rattle.dh_value.specs.declared.words.Word.{Word}
use Rattle.dh_value.specs.Words.{width_of, with_bits}
use Rattle.dh_tree.specs.declared.tables.MemEntry.{MemEntry}
use Rattle.dh_meaning.specs.Core.{CoreTerm, CorePhases, CoreProgram}
use Rattle.dh_meaning.specs.Effects.{Begun, Variables, unset, Effect, Block, commands, tests, block_run, at_each, tested_at, written, stop_after}
use Rattle.dh_meaning.specs.Paths.{Path}
use Rattle.dh_meaning.specs.Runs as source
use Rattle.dh_meaning.specs.Runs.{RunState, stands_at, state_after, step_effect, begun_at, step_from, next_state, first_state, run_state, goes_on}
use Rattle.dh_plan.specs.declared.operations.Operation.{Operation}
use Rattle.dh_plan.specs.declared.operations.OperationForm.{OperationForm}
use Rattle.dh_plan.specs.declared.operations.OperationForm.TheVariants.{Constant, Old, Compute, Convert, Select, Check, Probe, Read, Write, Set}
use Rattle.dh_plan.specs.PlainPlans.{PlainPlan, operations_in, first_in}
use Rattle.dh_plan.specs.Blocks.{kind_at, is_on, BlockEvent, first_fault, puts_of, Put, all_put, RegisterSet, all_set, form_sets, operation_sets, block_sets}
use Rattle.dh_plan.specs.Correspondence.{Slots}
use Rattle.dh_plan.specs.DoneProgram.{RunsAs, NeverStuck, PhasesMakeRuns}
use Rattle.dh_plan.specs.PlanPhases.{NamesFault, DoesEffect, DoesBlock, SetsFlag, Touches, DoesPhases, Tie, both_ties, no_tie, AreNodesOf, does_phases}
use Rattle.dh_plan.specs.PlanRuns.{PlanTodo, nodes_then, test_then, pick_then, PlanPlace, at, PlanNext, plan_next, PlanState, plan_stands_at, plan_state_after, plan_step_from, next_plan_state, first_registers, plan_state, start_at, events_of_block, sets_of_block, block_values, outcome_named, plan_next_of, flag_holds}
use Rattle.dh_plan.specs.SoundPlans.{CountsTurns, KeepsCounter, countings}
use Rattle.dh_plan.specs.SourceEffects.{failure_of}
use Rattle.dh_plan.proofs.Appends.{sets_in_order}
use Rattle.dh_plan.proofs.SourceMoves.{written_is, outcome_of, NotStuck, stops_with, block_spares}
use Rattle.dh_plan.proofs.TiedNodes.{nodes_zip, nodes_free}
use Rattle.dh_plan.proofs.JointPlaces.{Joint, j_over, j_phases, Stand, s_ended, s_block, s_loop, s_pick, around, paths_at, source_todo, plan_todo, source_place, plan_place, Valid, ValidStand, Live, LiveStand, Met, turned_moves, paths_are, stand_for, counters_kept}
use Rattle.dh_plan.proofs.JointEnters.{met_end, into_nodes, behind_met, loop_met, pick_met}

-- Registers that no operation sets.

pub form_stays : (first : ℕ) (ws : List Word) (f : OperationForm) (c : ℕ) → ((value : ℕ) → f ≡ Set c value → ⊥) → (registers : List ℕ)
    → slice_index (all_set (form_sets first ws f) registers) c ≡ slice_index registers c
form_stays first ws (Constant word) c h registers = refl
form_stays first ws (Old register) c h registers = refl
form_stays first ws (Compute op left right) c h registers = refl
form_stays first ws (Convert inner to) c h registers = refl
form_stays first ws (Select test a b) c h registers = refl
form_stays first ws (Check ok fault) c h registers = refl
form_stays first ws (Probe r fault) c h registers = refl
form_stays first ws (Read r) c h registers = refl
form_stays first ws (Write r value) c h registers = refl
form_stays first ws (Set register value) c h registers = get_or-set_other registers register c _ 0 (λ same. h value (ap (λ (x : ℕ). Set x value) (sym same)))

pub guarded_stays : (on : Bool) (first : ℕ) (ws : List Word) (f : OperationForm) (c : ℕ) → ((value : ℕ) → f ≡ Set c value → ⊥) → (registers : List ℕ)
    → slice_index (all_set (if on then form_sets first ws f else []) registers) c ≡ slice_index registers c
guarded_stays true first ws f c h registers = form_stays first ws f c h registers
guarded_stays false first ws f c h registers = refl

pub sets_stay : (first : ℕ) (ws : List Word) (os : List Operation) (c : ℕ)
    → ((i : ℕ) (guard : Option ℕ) (value : ℕ) → slice_get os i ≡ Some (record { guard = guard; form = Set c value }) → ⊥)
    → (registers : List ℕ) → slice_index (all_set (block_sets first ws os) registers) c ≡ slice_index registers c
sets_stay first ws [] c h registers = refl
sets_stay first ws (o ∷ os) c h registers =
    ap (λ (rs : List ℕ). slice_index rs c) (sets_in_order (operation_sets first ws o) (block_sets first ws os) registers)
    ∙ (sets_stay first ws os c (λ i guard value there. h (suc i) guard value there) (all_set (operation_sets first ws o) registers)
    ∙ guarded_stays (is_on first ws o.guard) first ws o.form c (λ value e. h 0 o.guard value (ap (λ (f : OperationForm). Some (record { guard = o.guard; form = f })) e)) registers)

-- A block.

abbrev pub begun : PlainPlan → List (List ℕ) → Begun
begun plan memories = record { table = plan.table; memories = memories }

abbrev pub effect_at : PlainPlan → (memories : List (List ℕ)) → Joint → Block → Variables → Effect
effect_at plan memories k blk variables = block_run (begun plan memories) (paths_at k) blk (record { variables = variables; events = [] })

pub does_at : (plan : PlainPlan) (slots : Slots) (extra : Tie) (k : Joint) (blk : Block) (block : ℕ) (registers : List ℕ) (memories : List (List ℕ)) (variables : Variables)
    → DoesBlock plan slots (around k) blk block → Live plan slots extra k registers variables
    → DoesEffect plan slots block (start_at plan registers memories) (effect_at plan memories k blk variables)
does_at plan slots extra k blk block registers memories variables does live =
    subst (λ (paths : List Path). DoesEffect plan slots block (start_at plan registers memories) (block_run (begun plan memories) paths blk (record { variables = variables; events = [] })))
    (sym (paths_are k)) (does registers memories variables (stand_for plan slots extra k registers variables live))

pub block_live : (plan : PlainPlan) (slots : Slots) (extra : Tie) (k : Joint) (blk : Block) (flag : Option ℕ) (block : ℕ) (registers : List ℕ) (memories : List (List ℕ)) (variables : Variables)
    → DoesBlock plan slots (around k) blk block → Touches plan slots (around k) blk flag block → Valid plan slots extra k → Live plan slots extra k registers variables
    → failure_of (effect_at plan memories k blk variables).events ≡ None
    → Live plan slots extra k (all_set (sets_of_block plan (start_at plan registers memories) block) registers) (effect_at plan memories k blk variables).variables
block_live plan slots extra k blk flag block registers memories variables does touches valid live none =
    let d = does_at plan slots extra k blk block registers memories variables does live in
    let ws = block_values plan (start_at plan registers memories) block in (
      (d.fit none, d.holding none),
      (
        turned_moves k registers _ variables _
            (λ c i. sets_stay (first_in plan block) ws (operations_in plan block) c (λ j guard value there. counters_kept plan slots extra k valid c i block j guard value there) registers)
            (λ e i p. block_spares (begun plan memories) e p (paths_at k) blk (record { variables = variables; events = [] }) (touches.spares e i)) live.1.0,
        λ c never apart. sets_stay (first_in plan block) ws (operations_in plan block) c (λ j guard value there. never block j guard value there) registers ∙ live.1.1 c never apart,
      ),
    )

-- States.

-- both stand alike
pub record Alike (plan : PlainPlan) (slots : Slots) (extra : Tie) (s : RunState) (t : PlanState) : Type 0 where
  pub outcome : t.outcome ≡ s.outcome
  pub steps : t.steps ≡ s.steps
  pub memories : t.memories ≡ s.memories
  pub stand : Stand
  pub valid : ValidStand plan slots extra stand
  pub source_is : s.place ≡ source_place stand
  pub plan_is : t.place ≡ plan_place stand
  pub live : LiveStand plan slots extra stand t.registers s.variables

pub outcomes_same : (st : Stand) → (plan_stands_at 0 [] (plan_next (plan_place st) [])).outcome ≡ (stands_at 0 [] (source.next (source_place st) unset)).outcome
outcomes_same s_ended = refl
outcomes_same (s_block cs block ps ns k) = refl
outcomes_same (s_loop test ps block flag ns k) = refl
outcomes_same (s_pick test chosen other block flag ns ms k) = refl

pub met_alike : (plan : PlainPlan) (slots : Slots) (extra : Tie) (steps : ℕ) (memories memories' : List (List ℕ)) (n : source.RunNext) (m : PlanNext) → memories' ≡ memories → Met plan slots extra n m
    → Alike plan slots extra (stands_at steps memories n) (plan_stands_at steps memories' m)
met_alike plan slots extra steps memories memories' n m same met =
    record {
      outcome =
          ap (λ (p : PlanPlace). (plan_stands_at 0 [] (plan_next p [])).outcome) met.plan_is
          ∙ (outcomes_same met.stand ∙ sym (ap (λ (p : source.RunPlace). (stands_at 0 [] (source.next p unset)).outcome) met.source_is));
      steps = refl;
      memories = same;
      stand = met.stand;
      valid = met.valid;
      source_is = met.source_is;
      plan_is = met.plan_is;
      live = met.live;
    }

-- a step that faults, or goes on
pub finish : (plan : PlainPlan) (slots : Slots) (extra : Tie) (s : RunState) (t : PlanState) (e : Effect) (events : List BlockEvent) (sets : List RegisterSet)
    (fault : Option ℕ) (failure : Option (FaultKind × place.Place)) → Alike plan slots extra s t → NamesFault plan.faults fault failure
    → (failure ≡ None → Alike plan slots extra (state_after plan.table s e None) (plan_state_after plan t events sets None))
    → Alike plan slots extra (state_after plan.table s e (outcome_of failure)) (plan_state_after plan t events sets fault)
finish plan slots extra s t e events sets None None before h f = f refl
finish plan slots extra s t e events sets (Some fault) None before h f = absurd h
finish plan slots extra s t e events sets None (Some failure) before h f = absurd h
finish plan slots extra s t e events sets (Some fault) (Some failure) before h f =
    record {
      outcome = ap outcome_named h;
      steps = before.steps;
      memories = before.memories;
      stand = before.stand;
      valid = before.valid;
      source_is = before.source_is;
      plan_is = before.plan_is;
      live = before.live;
    }

abbrev pub run_at : (steps : ℕ) → List (List ℕ) → Variables → source.RunPlace → RunState
run_at steps memories variables p = record { outcome = Going; steps = steps; memories = memories; variables = variables; place = p }

abbrev pub plan_at : (steps : ℕ) → List (List ℕ) → List ℕ → PlanPlace → PlanState
plan_at steps memories registers p = record { outcome = Going; steps = steps; memories = memories; registers = registers; place = p }

-- a step that does a block, of which it is told where both go on behind it
pub block_step : (plan : PlainPlan) (slots : Slots) (extra : Tie) (k : Joint) (blk : Block) (block : ℕ) (todo : source.RunTodo) (rest : PlanTodo)
    (steps : ℕ) (memories : List (List ℕ)) (registers : List ℕ) (variables : Variables)
    → DoesBlock plan slots (around k) blk block → Live plan slots extra k registers variables
    → Alike plan slots extra (run_at steps memories variables (source.at (paths_at k) blk todo)) (plan_at steps memories registers (at block rest))
    → NotStuck (stop_after plan.table [] (effect_at plan memories k blk variables).events)
    → (failure_of (effect_at plan memories k blk variables).events ≡ None
    → Met plan slots extra (source.next_of (begun plan memories) todo (effect_at plan memories k blk variables).variables)
    (plan_next_of plan.registers rest (all_set (sets_of_block plan (start_at plan registers memories) block) registers)))
    → Alike plan slots extra (next_state plan.table (run_at steps memories variables (source.at (paths_at k) blk todo))) (next_plan_state plan (plan_at steps memories registers (at block rest)))
block_step plan slots extra k blk block todo rest steps memories registers variables does live before free on =
    let s = run_at steps memories variables (source.at (paths_at k) blk todo) in
    let t = plan_at steps memories registers (at block rest) in
    let e = effect_at plan memories k blk variables in
    let d = does_at plan slots extra k blk block registers memories variables does live in
    let events = events_of_block plan (start_at plan registers memories) block in
    let sets = sets_of_block plan (start_at plan registers memories) block in
    let core = finish plan slots extra s t e events sets (first_fault events) (failure_of e.events) before d.fault
    (λ none. met_alike plan slots extra (suc steps) (written e.events memories) (all_put (puts_of events) memories) _ _
    (ap (λ (ps : List Put). all_put ps memories) (d.writes none) ∙ sym (written_is e.events memories)) (on none)) in
    subst (λ (stop : Option Outcome). Alike plan slots extra (state_after plan.table s e stop) (plan_state_after plan t (events ++ []) (sets ++ []) (first_fault (events ++ []))))
    (sym (stops_with plan.table [] e.events free))
    (subst (λ (es : List BlockEvent). Alike plan slots extra (state_after plan.table s e (outcome_of (failure_of e.events))) (plan_state_after plan t es (sets ++ []) (first_fault es)))
    (sym (append-nil events))
    (subst (λ (ss : List RegisterSet). Alike plan slots extra (state_after plan.table s e (outcome_of (failure_of e.events))) (plan_state_after plan t events ss (first_fault events)))
    (sym (append-nil sets)) core))

-- the flag tells the test

pub holds_if : (x : ℕ) (g : Bool) → x ≡ (if g then 1 else 0) → (x == 1) ≡ g
holds_if x true e = ap (λ (y : ℕ). y == 1) e
holds_if x false e = ap (λ (y : ℕ). y == 1) e

pub flag_tells : (plan : PlainPlan) (slots : Slots) (extra : Tie) (k : Joint) (test : CoreTerm) (flag block : ℕ) (registers : List ℕ) (memories : List (List ℕ)) (variables : Variables)
    → SetsFlag plan slots (around k) test flag block → Live plan slots extra k registers variables
    → failure_of (effect_at plan memories k (tests test) variables).events ≡ None
    → flag_holds (all_set (sets_of_block plan (start_at plan registers memories) block) registers) flag
    ≡ goes_on (begun plan memories) variables (paths_at k) test
flag_tells plan slots extra k test flag block registers memories variables sets live none =
    let after = all_set (sets_of_block plan (start_at plan registers memories) block) registers in
    holds_if (slice_index after flag) (goes_on (begun plan memories) variables (paths_at k) test)
    (subst (λ (paths : List Path). failure_of (block_run (begun plan memories) paths (tests test) (record { variables = variables; events = [] })).events ≡ None
    → slice_index after flag ≡ (if goes_on (begun plan memories) variables paths test then 1 else 0))
    (sym (paths_are k)) (sets registers memories variables (stand_for plan slots extra k registers variables live)) none)

-- a test leaves the variables as they are
pub tests_keep : (b : Begun) (test : CoreTerm) (paths : List Path) (e : Effect) → (at_each (tested_at b test) paths e).variables ≡ e.variables
tests_keep b test [] e = refl
tests_keep b test (path ∷ paths) e = tests_keep b test paths (tested_at b test path e)

-- Steps.

pub alike_here : (plan : PlainPlan) (slots : Slots) (extra : Tie) (st : Stand) (steps : ℕ) (memories : List (List ℕ)) (registers : List ℕ) (variables : Variables)
    → ValidStand plan slots extra st → LiveStand plan slots extra st registers variables
    → Alike plan slots extra (run_at steps memories variables (source_place st)) (plan_at steps memories registers (plan_place st))
alike_here plan slots extra st steps memories registers variables valid live =
    record { outcome = refl; steps = refl; memories = refl; stand = st; valid = valid; source_is = refl; plan_is = refl; live = live }

-- what is told of a test's block: the flag tells the test by the variables behind it
pub tells_behind : (plan : PlainPlan) (slots : Slots) (extra : Tie) (k : Joint) (test : CoreTerm) (flag block : ℕ) (registers : List ℕ) (memories : List (List ℕ)) (variables : Variables)
    → SetsFlag plan slots (around k) test flag block → Live plan slots extra k registers variables
    → failure_of (effect_at plan memories k (tests test) variables).events ≡ None
    → flag_holds (all_set (sets_of_block plan (start_at plan registers memories) block) registers) flag
    ≡ goes_on (begun plan memories) (effect_at plan memories k (tests test) variables).variables (paths_at k) test
tells_behind plan slots extra k test flag block registers memories variables sets live none =
    flag_tells plan slots extra k test flag block registers memories variables sets live none
    ∙ ap (λ (v : Variables). goes_on (begun plan memories) v (paths_at k) test)
    (sym (tests_keep (begun plan memories) test (paths_at k) (record { variables = variables; events = [] })))

pub step_alike : (plan : PlainPlan) (slots : Slots) (extra : Tie) (st : Stand) (steps : ℕ) (memories : List (List ℕ)) (registers : List ℕ) (variables : Variables)
    → ValidStand plan slots extra st → LiveStand plan slots extra st registers variables
    → NotStuck (stop_after plan.table [] (step_effect plan.table (run_at steps memories variables (source_place st))).events)
    → Alike plan slots extra (next_state plan.table (run_at steps memories variables (source_place st))) (next_plan_state plan (plan_at steps memories registers (plan_place st)))
step_alike plan slots extra s_ended steps memories registers variables valid live free =
    met_alike plan slots extra (suc steps) memories memories _ _ refl (met_end plan slots extra variables registers)
step_alike plan slots extra (s_block cs block ps ns k) steps memories registers variables valid live free =
    block_step plan slots extra k (commands cs) block (source.phases_then (paths_at k) ps (source_todo k)) (nodes_then ns (plan_todo k)) steps memories registers variables valid.0.0.0 live
    (alike_here plan slots extra (s_block cs block ps ns k) steps memories registers variables valid live) free
    (λ none. behind_met plan slots extra (begun plan memories) (j_phases ps ns k) _ _ valid.1
    (block_live plan slots extra k (commands cs) None block registers memories variables valid.0.0.0 valid.0.0.1 valid.1.1 live none))
step_alike plan slots extra (s_loop test ps block flag ns k) steps memories registers variables valid live free =
    block_step plan slots extra k (tests test) block (source.test_then (paths_at k) test ps (source_todo k)) (test_then block flag ns (plan_todo k)) steps memories registers variables valid.0.0.0 live
    (alike_here plan slots extra (s_loop test ps block flag ns k) steps memories registers variables valid live) free
    (λ none. loop_met plan slots extra (begun plan memories) test ps block flag ns k _ _ valid.0 valid.1.0 valid.1.1
    (block_live plan slots extra k (tests test) (Some flag) block registers memories variables valid.0.0.0 valid.0.0.1.1 valid.1.1 live none)
    (tells_behind plan slots extra k test flag block registers memories variables valid.0.0.1.0 live none))
step_alike plan slots extra (s_pick test chosen other block flag ns ms k) steps memories registers variables valid live free =
    block_step plan slots extra k (tests test) block (source.pick_then (paths_at k) test chosen other (source_todo k)) (pick_then flag ns ms (plan_todo k)) steps memories registers variables valid.0.0.0 live
    (alike_here plan slots extra (s_pick test chosen other block flag ns ms k) steps memories registers variables valid live) free
    (λ none. pick_met plan slots extra (begun plan memories) test chosen other flag ns ms k _ _ valid.1.0.0 valid.1.0.1 valid.1.1
    (block_live plan slots extra k (tests test) (Some flag) block registers memories variables valid.0.0.0 valid.0.0.1.1 valid.1.1 live none)
    (tells_behind plan slots extra k test flag block registers memories variables valid.0.0.1.0 live none))

-- Whole states.

-- a state that is going, by its parts
pub run_is : (s : RunState) (p : source.RunPlace) → s.outcome ≡ Going → s.place ≡ p → s ≡ run_at s.steps s.memories s.variables p
run_is s p going here =
    ap (λ (o : Outcome). record { outcome = o; steps = s.steps; memories = s.memories; variables = s.variables; place = s.place }) going
    ∙ ap (λ (x : source.RunPlace). run_at s.steps s.memories s.variables x) here

pub plan_is_at : (t : PlanState) (steps : ℕ) (memories : List (List ℕ)) (p : PlanPlace) → t.outcome ≡ Going → t.steps ≡ steps → t.memories ≡ memories → t.place ≡ p
    → t ≡ plan_at steps memories t.registers p
plan_is_at t steps memories p going same_steps same_memories here =
    ap (λ (o : Outcome). record { outcome = o; steps = t.steps; memories = t.memories; registers = t.registers; place = t.place }) going
    ∙ (ap (λ (n : ℕ). plan_at n t.memories t.registers t.place) same_steps
    ∙ (ap (λ (m : List (List ℕ)). plan_at steps m t.registers t.place) same_memories
    ∙ ap (λ (x : PlanPlace). plan_at steps memories t.registers x) here))

-- a state is not that a bank is spent
abbrev pub IsFree : RunState → Type 0
IsFree s = (memory bank : ℕ) (at_place : place.Place) → s.outcome ≡ Stuck memory bank at_place → ⊥

-- a step that does not end stuck does not stop so
pub free_step : (table : List MemEntry) (s : RunState) → IsFree (step_from table s Going) → NotStuck (stop_after table [] (step_effect table s).events)
free_step table s free memory bank p stop =
    free memory bank p (ap (λ (o : Option Outcome). (state_after table s (step_effect table s) o).outcome) stop)

pub step_by : (plan : PlainPlan) (slots : Slots) (extra : Tie) (o : Outcome) (s : RunState) (t : PlanState) → s.outcome ≡ o → Alike plan slots extra s t → IsFree (step_from plan.table s o)
    → Alike plan slots extra (step_from plan.table s o) (plan_step_from plan t o)
step_by plan slots extra Ended s t e h free = h
step_by plan slots extra (Faulted kind at_place) s t e h free = h
step_by plan slots extra (Stuck memory bank at_place) s t e h free = h
step_by plan slots extra Going s t e h free =
    let source_same = run_is s (source_place h.stand) e h.source_is in
    let plan_same = plan_is_at t s.steps s.memories (plan_place h.stand) (h.outcome ∙ e) h.steps h.memories h.plan_is in
    let free_here = subst (λ (x : RunState). IsFree (step_from plan.table x Going)) source_same free in
    subst (λ (x : RunState). Alike plan slots extra (step_from plan.table x Going) (plan_step_from plan t Going)) (sym source_same)
    (subst (λ (y : PlanState). Alike plan slots extra (step_from plan.table (run_at s.steps s.memories s.variables (source_place h.stand)) Going) (plan_step_from plan y Going)) (sym plan_same)
    (step_alike plan slots extra h.stand s.steps s.memories t.registers s.variables h.valid h.live
    (free_step plan.table (run_at s.steps s.memories s.variables (source_place h.stand)) free_here)))

-- the plan's step by the program's outcome
pub alike_step : (plan : PlainPlan) (slots : Slots) (extra : Tie) (s : RunState) (t : PlanState) → Alike plan slots extra s t → IsFree (next_state plan.table s)
    → Alike plan slots extra (next_state plan.table s) (next_plan_state plan t)
alike_step plan slots extra s t h free =
    subst (λ (o : Outcome). Alike plan slots extra (next_state plan.table s) (plan_step_from plan t o)) (sym h.outcome) (step_by plan slots extra s.outcome s t refl h free)

-- The start.

pub zero_at : (n r : ℕ) → slice_index (replicate n 0) r ≡ 0
zero_at zero r = refl
zero_at (suc n) zero = refl
zero_at (suc n) (suc r) = zero_at n r

pub first_live : (plan : PlainPlan) (slots : Slots) (extra : Tie) → Live plan slots extra j_over (first_registers plan) unset
first_live plan slots extra = (
  (
    record {
      long = length-replicate (length plan.registers) 0;
      small = λ r. subst (λ (x : ℕ). x < 2 ^ width_of (kind_at plan.registers r)) (sym (zero_at (length plan.registers) r)) (pow_pos (width_of (kind_at plan.registers r)));
    },
    λ entity path r slot. ap (λ (x : ℕ). with_bits (kind_at plan.registers r) x)
        (zero_at (length plan.registers) r ∙ sym (mod-eq_of_lt (pow_pos (width_of (kind_at plan.registers r))))),
  ),
  (tt, λ c never apart. zero_at (length plan.registers) c),
)

-- the program, with the plan's table
abbrev pub over_table : List MemEntry → CorePhases → CoreProgram
over_table table phases = record { table = table; phases = phases }

pub runs_alike : (plan : PlainPlan) (slots : Slots) (extra : Tie) (phases : CorePhases) → AreNodesOf (both_ties (does_phases plan slots) extra) [] phases plan.body
    → AllByRecursion (CountsTurns plan) (countings plan.body) → AllByRecursion (KeepsCounter plan) (countings plan.body)
    → NeverStuck (over_table plan.table phases) → (memories : List (List ℕ)) (n : ℕ)
    → Alike plan slots extra (run_state (over_table plan.table phases) memories n) (plan_state plan memories n)
runs_alike plan slots extra phases does counts kept never memories zero =
    met_alike plan slots extra 0 memories memories _ _ refl
    (into_nodes plan slots extra phases plan.body j_over _ _ (first_registers plan) unset (does, (counts, kept)) tt (met_end plan slots extra unset (first_registers plan)) (first_live plan slots extra))
runs_alike plan slots extra phases does counts kept never memories (suc n) =
    alike_step plan slots extra _ _ (runs_alike plan slots extra phases does counts kept never memories n) (λ memory bank at_place stuck. never memories (suc n) memory bank at_place stuck)

pub runs_as : (plan : PlainPlan) (slots : Slots) (phases : CorePhases) → DoesPhases plan slots phases
    → AllByRecursion (CountsTurns plan) (countings plan.body) → AllByRecursion (KeepsCounter plan) (countings plan.body)
    → NeverStuck (over_table plan.table phases) → RunsAs (over_table plan.table phases) plan
runs_as plan slots phases does counts kept never =
    let both = nodes_zip (does_phases plan slots) no_tie [] phases plan.body does (nodes_free (does_phases plan slots) [] phases plan.body does) in
    record {
      outcome = λ memories n. (runs_alike plan slots no_tie phases both counts kept never memories n).outcome;
      steps = λ memories n. (runs_alike plan slots no_tie phases both counts kept never memories n).steps;
      memories_same = λ memories n. (runs_alike plan slots no_tie phases both counts kept never memories n).memories;
    }

pub phases_make_runs : (c : CoreProgram) (plan : PlainPlan) (slots : Slots) → PhasesMakeRuns c plan slots
phases_make_runs c plan slots same counts kept does never =
    subst (λ (table : List MemEntry). NeverStuck (over_table table c.phases) → RunsAs (over_table table c.phases) plan) same
    (runs_as plan slots c.phases does counts kept) never
