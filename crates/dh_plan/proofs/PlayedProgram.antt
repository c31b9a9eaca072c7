-- A net that plays a plan plays its program: the two runs are one, step by step, in outcome, memories and length.
use Rattle.std.proofs.Common.{◌≡◌, ℕ, List, refl, sym, ap, subst, ◌∙◌, arith}
use Rattle.std.specs.Prelude.{[], max, slice_index}
use Rattle.std.specs.List.{AllByRecursion}
use Rattle.dh_tree.specs.declared.tables.MemEntry.{MemEntry}
use Rattle.dh_tree.specs.Memories.{table_of}
use Rattle.dh_tree.specs.PlainTrees.{Program}
use Rattle.dh_tree.specs.Tables.{Fits}
use Rattle.dh_meaning.specs.CoreOf.{core_of}
use Rattle.dh_meaning.specs.Runs as source
use Rattle.dh_meaning.specs.Runs.{run_state}
use Rattle.dh_net.specs.Plays.{Run, Plays}
use Rattle.dh_plan.specs.PlainPlans.{PlainPlan}
use Rattle.dh_plan.specs.Correspondence.{Slots}
use Rattle.dh_plan.specs.DoneProgram.{NeverStuck}
use Rattle.dh_plan.specs.PlanPhases.{AreNodesOf, DoesPhases, does_phases}
use Rattle.dh_plan.specs.PlanRuns.{PlanPlace, blocks_at, plan_state}
use Rattle.dh_plan.specs.PlayedPlans.{longest, plan_run, place_length, program_run, times_phases, PlansPlayPrograms}
use Rattle.dh_plan.specs.SoundPlans.{CountsTurns, KeepsCounter, countings}
use Rattle.dh_plan.proofs.JointPlaces.{Stand, s_ended, s_block, s_loop, s_pick, source_place, plan_place, ValidStand}
use Rattle.dh_plan.proofs.JointSteps.{Alike, over_table, runs_alike}
use Rattle.dh_plan.proofs.TiedNodes.{nodes_zip}

pub max_none : (n : ℕ) → max n 0 ≡ n
max_none n = grind arith

-- at a stand the plan's step is as long as the program's
pub stand_length : (p : Program) (plan : PlainPlan) (slots : Slots) (lengths : List ℕ) (st : Stand) → ValidStand plan slots (times_phases p lengths) st
    → longest lengths (blocks_at (plan_place st)) ≡ place_length p (source_place st)
stand_length p plan slots lengths s_ended h = refl
stand_length p plan slots lengths (s_block cs block ps ns k) h = max_none (slice_index lengths block) ∙ h.0.1
stand_length p plan slots lengths (s_loop test ps block flag ns k) h = max_none (slice_index lengths block) ∙ h.0.1
stand_length p plan slots lengths (s_pick test chosen other block flag ns ms k) h = max_none (slice_index lengths block) ∙ h.0.1

pub alike_length : (p : Program) (plan : PlainPlan) (slots : Slots) (lengths : List ℕ) (s : source.RunState) (t : _) → Alike plan slots (times_phases p lengths) s t
    → longest lengths (blocks_at t.place) ≡ place_length p s.place
alike_length p plan slots lengths s t h =
    ap (λ (x : PlanPlace). longest lengths (blocks_at x)) h.plan_is
    ∙ (stand_length p plan slots lengths h.stand h.valid ∙ sym (ap (λ (x : source.RunPlace). place_length p x) h.source_is))

-- runs with equal parts are one
pub same_run : (r s : Run) → ((n : ℕ) → r.outcome n ≡ s.outcome n) → ((n : ℕ) → r.memories n ≡ s.memories n) → ((n : ℕ) → r.length n ≡ s.length n) → r ≡ s
same_run r s o m l = λ i. record { outcome = λ n. o n i; memories = λ n. m n i; length = λ n. l n i }

-- the run of the plan is that of the program
pub runs_same : (p : Program) (plan : PlainPlan) (slots : Slots) (lengths : List ℕ) → plan.table ≡ table_of p
    → AllByRecursion (CountsTurns plan) (countings plan.body) → AllByRecursion (KeepsCounter plan) (countings plan.body)
    → DoesPhases plan slots (core_of p).phases → AreNodesOf (times_phases p lengths) [] (core_of p).phases plan.body
    → NeverStuck (core_of p) → (start : List (List ℕ)) → plan_run plan lengths start ≡ program_run p start
runs_same p plan slots lengths table counts kept does times never start =
    let both = nodes_zip (does_phases plan slots) (times_phases p lengths) [] (core_of p).phases plan.body does times in
    let free = subst (λ (t : List MemEntry). NeverStuck (over_table t (core_of p).phases)) (sym table) never in
    let alike = subst (λ (t : List MemEntry). (n : ℕ) → Alike plan slots (times_phases p lengths) (run_state (over_table t (core_of p).phases) start n) (plan_state plan start n)) table
    (λ n. runs_alike plan slots (times_phases p lengths) (core_of p).phases both counts kept free start n) in
    same_run (plan_run plan lengths start) (program_run p start) (λ n. (alike n).outcome) (λ n. (alike n).memories)
    (λ n. alike_length p plan slots lengths _ _ (alike n))

pub plans_play_programs : (p : Program) → PlansPlayPrograms p
plans_play_programs p plan slots lengths net table counts kept does times never plays =
    record {
      valid = plays.valid;
      table = plays.table ∙ table;
      plays = λ start fits.
          subst (λ (r : Run). Plays net r start) (runs_same p plan slots lengths table counts kept does times never start)
          (plays.plays start (subst (λ (t : List MemEntry). Fits t start) (sym table) fits));
    }
