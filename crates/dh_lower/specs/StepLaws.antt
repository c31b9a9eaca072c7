-- What a clock writes, and what wires show at the end of a step, as laws.
use Rattle.std.specs.Prelude.{◌≡◌, ℕ, true, false, List, [], slice_get, Some}
use Rattle.dh_value.specs.declared.words.Word.{Word}
use Rattle.dh_net.specs.BankPorts.{ports_of}
use Rattle.dh_net.specs.Clock.{memories_after, is_active}
use Rattle.dh_net.specs.declared.nets.Driver.{Driver}
use Rattle.dh_plan.specs.declared.operations.Operation.{Operation}
use Rattle.dh_plan.specs.Blocks.{Look, AreValues, puts_of, all_put}
use Rattle.dh_plan.specs.BoundPorts.{Uses}
use Rattle.dh_plan.specs.LegalSchedules.{Timing}
use Rattle.dh_plan.specs.PlainPlans.{PlainPlan}
use Rattle.dh_plan.specs.PlanRuns.{start_at, block_values, step_events, step_sets}
use Rattle.dh_plan.specs.SoundPlans.{IsOneOf}
use Rattle.dh_lower.specs.ClockLaws.{PortsSay}
use Rattle.dh_lower.specs.NetOfPlan.{events_by, sets_by}
use Rattle.dh_lower.specs.PortUsers.{User, Moment}
use Rattle.dh_lower.specs.StepFacts.{HasPortUsers, IsMoment}

-- where a step's writes are made the ports write those of its events, and else none
pub record PortsWriteStep (plan : PlainPlan) (registers : List ℕ) (memories : List (List ℕ)) (m : Moment) (wires : List ℕ) (dss : List (List Driver)) : Type 0 where
  pub made : m.commits ≡ true
      → memories_after plan.table wires dss (ports_of plan.table) memories ≡ all_put (puts_of (step_events plan (start_at plan registers memories) m.active)) memories
  pub kept : m.commits ≡ false → memories_after plan.table wires dss (ports_of plan.table) memories ≡ memories
  -- a driver that writes is active there alone
  pub last : (q i : ℕ) (ds : List Driver) (d : Driver) → slice_get dss q ≡ Some ds → slice_get ds i ≡ Some d → d.write ≡ true → is_active wires d ≡ true → m.commits ≡ true

abbrev pub ClocksWriteSteps : PlainPlan → Timing → Uses → (users : (port : ℕ) → List User) → Type 0
ClocksWriteSteps plan t u users =
    (registers : List ℕ) (memories : List (List ℕ)) (held : List ℕ) (words : (block : ℕ) → List Word) (m : Moment) (wires : List ℕ) (dss : List (List Driver))
    → HasPortUsers plan u users → IsMoment plan t u registers memories held words m → PortsSay plan t users words m wires dss
    → PortsWriteStep plan registers memories m wires dss

-- What a block's values are by a look at ports needs no memories.
abbrev pub PortsNeedNoMemories : Type 0
PortsNeedNoMemories =
    (plan : PlainPlan) (registers : List ℕ) (memories : List (List ℕ)) (look : Look) (first : ℕ) (os : List Operation) (ws : List Word)
    → AreValues (start_at plan registers []) look first os ws → AreValues (start_at plan registers memories) look first os ws

-- wires that show all values of a step's blocks show its faults, writes and sets
pub record ShowsStepEnd (plan : PlainPlan) (registers : List ℕ) (memories : List (List ℕ)) (words : (block : ℕ) → List Word) (blocks : List ℕ) : Type 0 where
  pub events : events_by plan registers words blocks ≡ step_events plan (start_at plan registers memories) blocks
  pub sets : sets_by plan words blocks ≡ step_sets plan (start_at plan registers memories) blocks

abbrev pub EndsAreShown : Type 0
EndsAreShown =
    (plan : PlainPlan) (registers : List ℕ) (memories : List (List ℕ)) (words : (block : ℕ) → List Word) (blocks : List ℕ)
    → ((block : ℕ) → IsOneOf block blocks → words block ≡ block_values plan (start_at plan registers memories) block)
    → ShowsStepEnd plan registers memories words blocks
