-- Graphs of states, and when a graph does the phases of a plan: whatever the registers hold, the decision behind a
-- block leads where the plan goes on. (State graphs with forks and joins are common in high-level synthesis.)
use Rattle.std.specs.Prelude.{◌≡◌, ℕ, ◌==◌, if◌then◌else◌, List, slice_get, slice_index, slice_set, Option, Some, None}
use Rattle.dh_value.specs.declared.kinds.Kind.{Kind}
use Rattle.dh_plan.specs.PlainPlans.{PlainPlan}
use Rattle.dh_plan.specs.PlanRuns.{PlanTodo, over, nodes_then, PlanPlace, ended, at, inside, PlanPlaces, no_places, place_then, PlanNext, plan_next, plan_next_of, flag_holds, counted_up}

mutual
  -- a decision, by the registers after a step
  pub data GraphWay : Type 0 where
    -- to a state
    to_state : (state : ℕ) → GraphWay
    -- by a flag
    by_flag : (flag : ℕ) → (holds fails : GraphWay) → GraphWay
    -- by a counter: at its last value it becomes 0 and this goes past, else it becomes one more and goes again
    by_count : (counter last : ℕ) → (again past : GraphWay) → GraphWay
    -- threads begin, each by its own way; the fork goes by the number of its first group
    to_fork : (fork : ℕ) → (threads : AllWays) → GraphWay
    -- the thread ends
    to_end : GraphWay

  pub data AllWays : Type 0 where
    no_ways : AllWays
    way_then : GraphWay → AllWays → AllWays

-- a state: its block, and where to go behind it
pub record GraphStop : Type 0 where
  pub block : ℕ
  pub way : GraphWay

-- a graph: its states, where the program begins, and of each group where to go when the fork that it begins ends
pub record Flow : Type 0 where
  pub states : List GraphStop
  pub first : GraphWay
  pub joins : List (Option GraphWay)

mutual
  -- where a thread of the graph stands
  pub data GraphSpot : Type 0 where
    rests : GraphSpot
    in_state : (state : ℕ) → GraphSpot
    in_fork : (fork : ℕ) → (threads : Spots) → GraphSpot

  pub data Spots : Type 0 where
    no_spots : Spots
    spot_then : GraphSpot → Spots → Spots

-- where a decision leads, and the registers there
pub record GraphLed : Type 0 where
  pub spot : GraphSpot
  pub registers : List ℕ

abbrev pub led : GraphSpot → List ℕ → GraphLed
led spot registers = record { spot = spot; registers = registers }

abbrev mutual
  pub resolve : List Kind → GraphWay → (registers : List ℕ) → GraphLed
  resolve kinds (to_state state) registers = led (in_state state) registers
  resolve kinds (by_flag flag w v) registers = if flag_holds registers flag then resolve kinds w registers else resolve kinds v registers
  resolve kinds (by_count counter last again past) registers =
      if slice_index registers counter == last then resolve kinds past (slice_set registers counter 0)
      else resolve kinds again (counted_up kinds counter registers)
  resolve kinds (to_fork fork ws) registers = led (in_fork fork (resolve_all kinds ws registers)) registers
  resolve kinds to_end registers = led rests registers

  -- threads begin without a look at one another
  pub resolve_all : List Kind → AllWays → (registers : List ℕ) → Spots
  resolve_all kinds no_ways registers = no_spots
  resolve_all kinds (way_then w ws) registers = spot_then (resolve kinds w registers).spot (resolve_all kinds ws registers)

abbrev pub block_of_stop : Option GraphStop → ℕ
block_of_stop None = 0
block_of_stop (Some s) = s.block

abbrev pub way_of_stop : Option GraphStop → GraphWay
way_of_stop None = to_end
way_of_stop (Some s) = s.way

abbrev pub way_of_join : Option (Option GraphWay) → GraphWay
way_of_join None = to_end
way_of_join (Some None) = to_end
way_of_join (Some (Some w)) = w

abbrev mutual
  -- where a plan stands when a graph stands here, where `behind` is what is still to come behind each state, and
  -- `after` what comes behind each fork
  pub place_of_spot : (states : List GraphStop) → (behind after : ℕ → PlanTodo) → GraphSpot → PlanPlace
  place_of_spot states behind after rests = ended
  place_of_spot states behind after (in_state state) = at (block_of_stop (slice_get states state)) (behind state)
  place_of_spot states behind after (in_fork fork ss) = inside (places_of_spots states behind after ss) (after fork)

  pub places_of_spots : (states : List GraphStop) → (behind after : ℕ → PlanTodo) → Spots → PlanPlaces
  places_of_spots states behind after no_spots = no_places
  places_of_spots states behind after (spot_then s ss) = place_then (place_of_spot states behind after s) (places_of_spots states behind after ss)

abbrev pub leads_to : (states : List GraphStop) → (behind after : ℕ → PlanTodo) → GraphLed → PlanNext
leads_to states behind after l = plan_next (place_of_spot states behind after l.spot) l.registers

-- A graph does a plan: what is still to come behind each state and each fork can be told so that every decision
-- leads where the plan goes on, whatever the registers hold.
pub record FlowsAs (g : Flow) (plan : PlainPlan) : Type 0 where
  pub behind : ℕ → PlanTodo
  pub after : ℕ → PlanTodo
  pub first : (registers : List ℕ) → leads_to g.states behind after (resolve plan.registers g.first registers) ≡ plan_next_of plan.registers (nodes_then plan.body over) registers
  pub each : (state : ℕ) (registers : List ℕ) → leads_to g.states behind after (resolve plan.registers (way_of_stop (slice_get g.states state)) registers) ≡ plan_next_of plan.registers (behind state) registers
  pub joined : (fork : ℕ) (registers : List ℕ) → leads_to g.states behind after (resolve plan.registers (way_of_join (slice_get g.joins fork)) registers) ≡ plan_next_of plan.registers (after fork) registers
