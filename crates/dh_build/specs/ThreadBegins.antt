-- Where the thread of a plan begins, and what its registers are then.
use Rattle.std.specs.Prelude.{◌≡◌, ℕ, List, ◌∷◌, length, replicate}
use Rattle.std.specs.List.{AllByRecursion}
use Rattle.dh_value.specs.Words.{IsKind}
use Rattle.dh_value.specs.declared.kinds.Kind.{Kind}
use Rattle.dh_plan.specs.declared.graphs.Decision.{Decision}
use Rattle.dh_plan.specs.PlanRuns.{counted_up}
use Rattle.dh_plan.specs.Ways.{GraphLed, resolve}
use Rattle.dh_control.specs.WayMoves.{spot_number, way_of_decision}

-- where a decision leads by these registers, and what they are then
abbrev pub led_by_decision : List Kind → Decision → (registers : List ℕ) → GraphLed
led_by_decision kinds d registers = resolve kinds (way_of_decision d) registers

-- a counter is one more, where the registers are of these kinds
abbrev pub IsCountedUp : List Kind → (counter : ℕ) → (old new : List ℕ) → Type 0
IsCountedUp kinds counter old new = AllByRecursion IsKind kinds → new ≡ counted_up kinds counter old

-- this is the number of the state to which a decision leads, and `over` where the thread ends
abbrev pub DecisionLeadsTo : List Kind → (over : ℕ) → Decision → (registers : List ℕ) → (number : ℕ) → Type 0
DecisionLeadsTo kinds over d registers number = AllByRecursion IsKind kinds → number ≡ spot_number over (led_by_decision kinds d registers).spot

-- these are the registers then
abbrev pub LeavesThese : List Kind → Decision → (old new : List ℕ) → Type 0
LeavesThese kinds d old new = AllByRecursion IsKind kinds → new ≡ (led_by_decision kinds d old).registers

-- where the registers of a net stand first: no clock has passed, and the thread begins by this decision
abbrev pub begun_by : List Kind → (over : ℕ) → Decision → List ℕ
begun_by kinds over d = 0 ∷ 0 ∷ 0 ∷ spot_number over (led_by_decision kinds d (replicate (length kinds) 0)).spot ∷ (led_by_decision kinds d (replicate (length kinds) 0)).registers
