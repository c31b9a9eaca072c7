-- The run of a plan: where it stands, its logical steps, and how it stands after n of them. (As the checked
-- semantics, over the nodes of a plan: the shape is that of the program's own run in dh_meaning.)
-- Where a run stands is the block that is done next with what is still to come behind it, or, of threads side by
-- side, where each of them stands. A form to come adds a constructor of `Node`, of `Todo` or `Place`, and lines.
use Rattle.std.specs.Prelude.{ℕ, zero, suc, ◌+◌, ◌-◌, ◌%◌, ◌^◌, ◌==◌, ◌&&◌, Bool, true, false, if◌then◌else◌, List, [], ◌∷◌, ◌++◌, length, replicate, slice_get, slice_index, slice_set, Option, Some, None}
use Rattle.dh_base.specs.declared.outcomes.FaultKind.{FaultKind}
use Rattle.dh_base.specs.declared.outcomes.Outcome.{Outcome}
use Rattle.dh_base.specs.declared.outcomes.Outcome.TheVariants.{Going, Ended, Faulted, Stuck}
use Rattle.dh_base.specs.declared.places.Place as source
use Rattle.dh_value.specs.declared.kinds.Kind.{Kind}
use Rattle.dh_value.specs.declared.words.Word.{Word}
use Rattle.dh_value.specs.Words.{width_of}
use Rattle.dh_plan.specs.PlainPlans.{Node, block_node, turns_node, loop_node, choice_node, threads_node, Nodes, no_nodes, node_then, NodeLists, no_lists, list_then, PlainPlan, first_in, operations_in}
use Rattle.dh_plan.specs.Blocks.{StepStart, kind_at, in_memories, values_of_operations, BlockEvent, block_events, RegisterSet, block_sets, first_fault, puts_of, all_put, all_set}

-- What is still to come behind a block that is done.
pub data PlanTodo : Type 0 where
  -- nothing
  over : PlanTodo
  -- these phases
  nodes_then : Nodes → PlanTodo → PlanTodo
  -- a turn is done: the next ones of a loop of so many
  turn_then : (counter turns : ℕ) → (body : Nodes) → PlanTodo → PlanTodo
  -- the test of a loop is done
  test_then : (test flag : ℕ) → (body : Nodes) → PlanTodo → PlanTodo
  -- the body of a loop is done, and its test comes again
  again_then : (test flag : ℕ) → (body : Nodes) → PlanTodo → PlanTodo
  -- the test before two arms is done
  pick_then : (flag : ℕ) → (chosen other : Nodes) → PlanTodo → PlanTodo

mutual
  -- where a thread stands
  pub data PlanPlace : Type 0 where
    ended : PlanPlace
    at : (block : ℕ) → PlanTodo → PlanPlace
    -- its threads stand here, and when all have ended this comes
    inside : PlanPlaces → PlanTodo → PlanPlace

  pub data PlanPlaces : Type 0 where
    no_places : PlanPlaces
    place_then : PlanPlace → PlanPlaces → PlanPlaces

-- a place, and the registers there
pub record PlanNext : Type 0 where
  pub place : PlanPlace
  pub registers : List ℕ

abbrev pub plan_next : PlanPlace → List ℕ → PlanNext
plan_next place registers = record { place = place; registers = registers }

abbrev pub has_ended : PlanPlace → Bool
has_ended ended = true
has_ended (at block k) = false
has_ended (inside ps k) = false

abbrev pub all_ended : PlanPlaces → Bool
all_ended no_places = true
all_ended (place_then p ps) = has_ended p && all_ended ps

-- threads go on, or what comes where they have nothing to do
abbrev pub inside_or : PlanPlaces → (k : PlanTodo) → (behind : PlanNext) → (registers : List ℕ) → PlanNext
inside_or ps k behind registers = if all_ended ps then behind else plan_next (inside ps k) registers

abbrev mutual
  -- Into phases: to their first block, or to what lies behind where they have none. `k` is what comes behind
  -- their last block. A loop begins with its counter at 0.
  pub plan_enter : Nodes → (k : PlanTodo) → (behind : PlanNext) → (registers : List ℕ) → PlanNext
  plan_enter no_nodes k behind registers = behind
  plan_enter (node_then n ns) k behind registers = enter_node n (nodes_then ns k) (plan_enter ns k behind registers) registers

  pub enter_node : Node → (k : PlanTodo) → (behind : PlanNext) → (registers : List ℕ) → PlanNext
  enter_node (block_node block) k behind registers = plan_next (at block k) registers
  enter_node (turns_node counter turns body) k behind registers =
      if turns == 0 then behind else plan_enter body (turn_then counter turns body k) behind registers
  enter_node (loop_node test flag body) k behind registers = plan_next (at test (test_then test flag body k)) registers
  enter_node (choice_node test flag chosen other) k behind registers = plan_next (at test (pick_then flag chosen other k)) registers
  enter_node (threads_node lists) k behind registers = inside_or (enter_lists lists registers) k behind registers

  -- threads begin, each at its own first block
  pub enter_lists : NodeLists → (registers : List ℕ) → PlanPlaces
  enter_lists no_lists registers = no_places
  enter_lists (list_then ns lists) registers = place_then (plan_enter ns over (plan_next ended registers) registers).place (enter_lists lists registers)

-- a flag holds
abbrev pub flag_holds : (registers : List ℕ) → (flag : ℕ) → Bool
flag_holds registers flag = slice_index registers flag == 1

-- a counter is one more, modulo 2^width
abbrev pub counted_up : List Kind → (counter : ℕ) → (registers : List ℕ) → List ℕ
counted_up kinds counter registers = slice_set registers counter ((slice_index registers counter + 1) % 2 ^ width_of (kind_at kinds counter))

-- behind a block that is done: to the next one, by the registers as they then are
abbrev pub plan_next_of : List Kind → PlanTodo → (registers : List ℕ) → PlanNext
plan_next_of kinds over registers = plan_next ended registers
plan_next_of kinds (nodes_then ns k) registers = plan_enter ns k (plan_next_of kinds k registers) registers
plan_next_of kinds (turn_then counter turns body k) registers =
    if slice_index registers counter == turns - 1
    then plan_next_of kinds k (slice_set registers counter 0)
    else plan_enter body (turn_then counter turns body k) (plan_next ended (counted_up kinds counter registers)) (counted_up kinds counter registers)
plan_next_of kinds (test_then test flag body k) registers =
    if flag_holds registers flag
    then plan_enter body (again_then test flag body k) (plan_next (at test (test_then test flag body k)) registers) registers
    else plan_next_of kinds k registers
plan_next_of kinds (again_then test flag body k) registers = plan_next (at test (test_then test flag body k)) registers
plan_next_of kinds (pick_then flag chosen other k) registers =
    if flag_holds registers flag then plan_enter chosen k (plan_next_of kinds k registers) registers else plan_enter other k (plan_next_of kinds k registers) registers

-- threads that went on, and the registers there
pub record PlanNextPlaces : Type 0 where
  pub places : PlanPlaces
  pub registers : List ℕ

abbrev pub with_first : PlanNext → PlanNextPlaces → PlanNextPlaces
with_first n ns = record { places = place_then n.place ns.places; registers = ns.registers }

-- threads that have all ended are left
abbrev pub threads_joined : List Kind → PlanNextPlaces → (k : PlanTodo) → PlanNext
threads_joined kinds ns k = if all_ended ns.places then plan_next_of kinds k ns.registers else plan_next (inside ns.places k) ns.registers

abbrev mutual
  -- where a thread stands behind a step; registers go through threads in order
  pub plan_place_after : List Kind → PlanPlace → (registers : List ℕ) → PlanNext
  plan_place_after kinds ended registers = plan_next ended registers
  plan_place_after kinds (at block k) registers = plan_next_of kinds k registers
  plan_place_after kinds (inside ps k) registers = threads_joined kinds (places_after kinds ps registers) k

  pub places_after : List Kind → PlanPlaces → (registers : List ℕ) → PlanNextPlaces
  places_after kinds no_places registers = record { places = no_places; registers = registers }
  places_after kinds (place_then p ps) registers =
      with_first (plan_place_after kinds p registers) (places_after kinds ps (plan_place_after kinds p registers).registers)

-- Steps.

abbrev mutual
  -- the blocks that the next step does, in order of threads
  pub blocks_at : PlanPlace → List ℕ
  blocks_at ended = []
  blocks_at (at block k) = block ∷ []
  blocks_at (inside ps k) = blocks_at_all ps

  pub blocks_at_all : PlanPlaces → List ℕ
  blocks_at_all no_places = []
  blocks_at_all (place_then p ps) = blocks_at p ++ blocks_at_all ps

abbrev pub start_at : PlainPlan → (registers : List ℕ) → (memories : List (List ℕ)) → StepStart
start_at plan registers memories =
    record { table = plan.table; views = plan.views; kinds = plan.registers; registers = registers; memories = memories }

-- the values of a block of the plan in a step
abbrev pub block_values : PlainPlan → StepStart → (block : ℕ) → List Word
block_values plan s block = values_of_operations s (in_memories s (first_in plan block)) (first_in plan block) (operations_in plan block)

-- what a block of the plan does in a step
abbrev pub events_of_block : PlainPlan → StepStart → (block : ℕ) → List BlockEvent
events_of_block plan s block = block_events s (first_in plan block) (block_values plan s block) (operations_in plan block)

abbrev pub sets_of_block : PlainPlan → StepStart → (block : ℕ) → List RegisterSet
sets_of_block plan s block = block_sets (first_in plan block) (block_values plan s block) (operations_in plan block)

-- what these blocks do, in order
abbrev pub step_events : PlainPlan → StepStart → (blocks : List ℕ) → List BlockEvent
step_events plan s [] = []
step_events plan s (b ∷ bs) = events_of_block plan s b ++ step_events plan s bs

abbrev pub step_sets : PlainPlan → StepStart → (blocks : List ℕ) → List RegisterSet
step_sets plan s [] = []
step_sets plan s (b ∷ bs) = sets_of_block plan s b ++ step_sets plan s bs

-- how a run stands: the steps that were done are those without fault
pub record PlanState : Type 0 where
  pub outcome : Outcome
  pub steps : ℕ
  pub memories : List (List ℕ)
  pub registers : List ℕ
  pub place : PlanPlace

abbrev pub plan_outcome_at : PlanPlace → Outcome
plan_outcome_at ended = Ended
plan_outcome_at (at block k) = Going
plan_outcome_at (inside ps k) = Going

abbrev pub plan_stands_at : (steps : ℕ) → List (List ℕ) → PlanNext → PlanState
plan_stands_at steps memories n =
    record { outcome = plan_outcome_at n.place; steps = steps; memories = memories; registers = n.registers; place = n.place }

-- the outcome that a fault names; a plan names each of its faults
abbrev pub outcome_named : Option (FaultKind × source.Place) → Outcome
outcome_named None = Ended
outcome_named (Some f) = Faulted f.0 f.1

-- a step with a fault makes no write; else all writes are made and all registers set
abbrev pub plan_state_after : PlainPlan → PlanState → (events : List BlockEvent) → (sets : List RegisterSet) → (fault : Option ℕ) → PlanState
plan_state_after plan s events sets None =
    plan_stands_at (suc s.steps) (all_put (puts_of events) s.memories) (plan_place_after plan.registers s.place (all_set sets s.registers))
plan_state_after plan s events sets (Some fault) = record s { outcome = outcome_named (slice_get plan.faults fault) }

-- the step of these blocks
abbrev pub step_done : PlainPlan → PlanState → StepStart → (blocks : List ℕ) → PlanState
step_done plan s start blocks =
    plan_state_after plan s (step_events plan start blocks) (step_sets plan start blocks) (first_fault (step_events plan start blocks))

-- the next logical step, where there is one
abbrev pub plan_step_from : PlainPlan → PlanState → Outcome → PlanState
plan_step_from plan s Going = step_done plan s (start_at plan s.registers s.memories) (blocks_at s.place)
plan_step_from plan s Ended = s
plan_step_from plan s (Faulted kind place) = s
plan_step_from plan s (Stuck memory bank place) = s

abbrev pub next_plan_state : PlainPlan → PlanState → PlanState
next_plan_state plan s = plan_step_from plan s s.outcome

-- registers start with 0 or false
abbrev pub first_registers : PlainPlan → List ℕ
first_registers plan = replicate (length plan.registers) 0

-- how a run from these memories stands before its first step
abbrev pub first_plan_state : PlainPlan → List (List ℕ) → PlanState
first_plan_state plan memories = plan_stands_at 0 memories (plan_enter plan.body over (plan_next ended (first_registers plan)) (first_registers plan))

-- how it stands after n logical steps
abbrev pub plan_state : PlainPlan → List (List ℕ) → ℕ → PlanState
plan_state plan memories zero = first_plan_state plan memories
plan_state plan memories (suc n) = next_plan_state plan (plan_state plan memories n)
