-- What a netlist is of a plan, and of a program: it plays their runs, with the lengths that a schedule or the
-- program gives its steps.
use Rattle.std.specs.List.{AllByRecursion}
use Rattle.std.specs.Prelude.{◌≡◌, ℕ, suc, max, true, List, [], ◌∷◌, slice_get, slice_index, Some}
use Rattle.dh_tree.specs.PlainTrees.{Program}
use Rattle.dh_tree.specs.Memories.{table_of}
use Rattle.dh_tree.specs.Tables.{Fits}
use Rattle.dh_meaning.specs.CoreOf.{core_of}
use Rattle.dh_meaning.specs.Effects.{commands, tests}
use Rattle.dh_meaning.specs.Levels.{block_length}
use Rattle.dh_meaning.specs.Runs as source
use Rattle.dh_meaning.specs.Runs.{run_state}
use Rattle.dh_meets.specs.Sharing.{shared}
use Rattle.dh_net.specs.declared.nets.Driver.{Driver}
use Rattle.dh_net.specs.declared.nets.Net.{Net}
use Rattle.dh_net.specs.Clock.{State, Settles, ClocksTo, start_of, is_active}
use Rattle.dh_net.specs.Plays.{Run, clocks_of, HasSteps, Fit, Plays}
use Rattle.dh_net.specs.Valid.{IsValid}
use Rattle.dh_plan.specs.PlainPlans.{PlainPlan}
use Rattle.dh_plan.specs.Correspondence.{Slots}
use Rattle.dh_plan.specs.DoneProgram.{NeverStuck}
use Rattle.dh_plan.specs.PlanPhases.{Tie, AreNodesOf, DoesPhases}
use Rattle.dh_plan.specs.SoundPlans.{CountsTurns, KeepsCounter, countings}
use Rattle.dh_plan.specs.PlanRuns.{blocks_at, plan_state}

-- the longest of these blocks
abbrev pub longest : (lengths : List ℕ) → (blocks : List ℕ) → ℕ
longest lengths [] = 0
longest lengths (b ∷ bs) = max (slice_index lengths b) (longest lengths bs)

-- the run of a plan, whose steps are as long as the longest block that they do
abbrev pub plan_run : PlainPlan → (lengths : List ℕ) → (start : List (List ℕ)) → Run
plan_run plan lengths start = record {
  outcome = λ n. (plan_state plan start n).outcome;
  memories = λ n. (plan_state plan start n).memories;
  length = λ n. longest lengths (blocks_at (plan_state plan start n).place);
}

-- The length of the step that a run does next.
abbrev pub place_length : Program → source.RunPlace → ℕ
place_length p source.ended = 0
place_length p (source.at paths block k) = block_length (shared p) block

-- the checked run of a program, with the lengths of its steps without limits
abbrev pub program_run : Program → (start : List (List ℕ)) → Run
program_run p start = record {
  outcome = λ n. (run_state (core_of p) start n).outcome;
  memories = λ n. (run_state (core_of p) start n).memories;
  length = λ n. place_length p (run_state (core_of p) start n).place;
}

-- A driver that writes is active only in the last clock of a step, and only where that step has no fault.
abbrev pub WritesLast : Net → Run → (start : List (List ℕ)) → Type 0
WritesLast net r start =
    (clocks n : ℕ) (s : State) (wires : List ℕ) → ClocksTo net clocks (start_of net start) s → Settles net s wires → Fit r clocks n
    → (port i : ℕ) (ds : List Driver) (d : Driver) → slice_get net.drivers port ≡ Some ds → slice_get ds i ≡ Some d
    → d.write ≡ true → is_active wires d ≡ true
    → HasSteps r (suc n) × (suc clocks ≡ clocks_of r (suc n))

-- what a net is that plays a plan from all memories that fit, with a schedule's lengths
pub record PlaysPlan (plan : PlainPlan) (lengths : List ℕ) (net : Net) : Type 0 where
  pub valid : IsValid net
  pub table : net.table ≡ plan.table
  pub faults : net.faults ≡ plan.faults
  pub plays : (start : List (List ℕ)) → Fits plan.table start → Plays net (plan_run plan lengths start) start
  pub writes : (start : List (List ℕ)) → Fits plan.table start → WritesLast net (plan_run plan lengths start) start

-- what a net is that plays a program from all memories that fit, without limits
pub record PlaysItsProgram (p : Program) (net : Net) : Type 0 where
  pub valid : IsValid net
  pub table : net.table ≡ table_of p
  pub plays : (start : List (List ℕ)) → Fits (table_of p) start → Plays net (program_run p start) start

-- these lengths of blocks are those of their phases
abbrev pub times_phases : Program → (lengths : List ℕ) → Tie
times_phases p lengths = record {
  of_block = λ rounds cs block. slice_index lengths block ≡ block_length (shared p) (commands cs);
  of_test = λ rounds test flag block. slice_index lengths block ≡ block_length (shared p) (tests test);
  of_loop = λ rounds loop counter. Unit {0};
}

-- A net that plays a plan plays the program whose phases the plan does, in lengths that are those of the phases.
abbrev pub PlansPlayPrograms : Program → Type 0
PlansPlayPrograms p =
    (plan : PlainPlan) (slots : Slots) (lengths : List ℕ) (net : Net)
    → plan.table ≡ table_of p → AllByRecursion (CountsTurns plan) (countings plan.body) → AllByRecursion (KeepsCounter plan) (countings plan.body)
    → DoesPhases plan slots (core_of p).phases → AreNodesOf (times_phases p lengths) [] (core_of p).phases plan.body
    → NeverStuck (core_of p) → PlaysPlan plan lengths net → PlaysItsProgram p net
