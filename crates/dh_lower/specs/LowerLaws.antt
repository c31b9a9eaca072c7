-- The laws of this crate.
use Rattle.std.specs.Prelude.{◌≡◌, ℕ, ◌+◌, ◌<◌, ◌≤◌, List, length}
use Rattle.dh_value.specs.declared.words.Word.{Word}
use Rattle.dh_plan.specs.declared.operations.Operation.{Operation}
use Rattle.dh_plan.specs.Blocks.{StepStart, Look, word_at}
use Rattle.dh_plan.specs.BlockLaws.{LooksBack}
use Rattle.dh_plan.specs.BoundPorts.{Uses}
use Rattle.dh_plan.specs.LegalSchedules.{value_clock, last_clock}
use Rattle.dh_plan.specs.PlainPlans.{PlainPlan, first_in}
use Rattle.dh_plan.specs.PlanRuns.{plan_place_after}
use Rattle.dh_plan.specs.Ways.{Flow, FlowsAs, GraphSpot, leads_to, place_of_spot}
use Rattle.dh_lower.specs.ShownWords.{in_ports, IsAtClock}
use Rattle.dh_lower.specs.SpotsDone.{spot_after}

-- at each clock the wires of a block show the values that are there
abbrev pub ShowsWhatIsThere : Type 0
ShowsWhatIsThere =
    (s : StepStart) (look : Look) (first : ℕ) (os : List Operation) (clocks : List ℕ) (us vs : List Word) (clock : ℕ)
    → IsAtClock s look first os clocks us vs clock
    → (i : ℕ) → i < length os → value_clock first os clocks (first + i) ≤ clock → word_at first us (first + i) ≡ word_at first vs (first + i)

-- and from the clock on in which the last value is there they show all
abbrev pub ShowsAllAtLast : Type 0
ShowsAllAtLast =
    (s : StepStart) (look : Look) (first : ℕ) (os : List Operation) (clocks : List ℕ) (us vs : List Word) (clock : ℕ)
    → IsAtClock s look first os clocks us vs clock → length clocks ≡ length os → last_clock os clocks ≤ clock → us ≡ vs

-- what ports show of a read depends on what its access takes
abbrev pub PortsLookBack : Type 0
PortsLookBack = (plan : PlainPlan) (u : Uses) (held : List ℕ) (block : ℕ) → LooksBack (in_ports plan u held block) (first_in plan block)

-- a graph that does a plan goes on from step to step as the plan does, threads with their forks and joins
abbrev pub SpotsFollowPlaces : Type 0
SpotsFollowPlaces =
    (g : Flow) (plan : PlainPlan) (f : FlowsAs g plan) (spot : GraphSpot) (registers : List ℕ)
    → leads_to g.states f.behind f.after (spot_after plan.registers g spot registers) ≡ plan_place_after plan.registers (place_of_spot g.states f.behind f.after spot) registers
