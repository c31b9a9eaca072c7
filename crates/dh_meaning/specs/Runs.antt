-- The checked run of a program: where it stands, its logical steps, and how it stands after n of them (after
-- the checked semantics of Nigam and others, PLDI 2020; lockstep by paths is this profile's).
-- Where a run stands is the block that it does next, at which paths, and what is still to come behind it.
-- Forms to come add a constructor of `Place` and of `Todo` each (threads side by side, arms at some of the
-- paths) and their lines below.
use Rattle.std.specs.Prelude.{ℕ, zero, suc, ◌+◌, ◌*◌, ◌-◌, ◌==◌, nat_lt, Bool, true, false, if◌then◌else◌, List, [], ◌∷◌, ◌++◌, slice_index_or, Option, Some, None, pos}
use Rattle.dh_base.specs.declared.outcomes.Outcome.{Outcome}
use Rattle.dh_base.specs.declared.outcomes.Outcome.TheVariants.{Going, Ended, Faulted, Stuck}
use Rattle.dh_tree.specs.declared.tables.MemEntry.{MemEntry}
use Rattle.dh_meaning.specs.Core.{CoreTerm, CoreCommands, Turning, CorePhase, straightly, turning, looping, choosing, CorePhases, no_core_phases, phase_and, CoreProgram}
use Rattle.dh_meaning.specs.Paths.{Path, outer_paths, all_copies}
use Rattle.dh_meaning.specs.Effects.{Begun, Variables, unset, set_variable, Effect, Event, Block, commands, tests, block_run, holds_at, written, stop_after}

-- Paths.

-- the paths inside a loop: each path outside has as many as the loop has copies; a loop of one copy adds none
abbrev pub inner_paths : List Path → Turning → List Path
inner_paths paths loop = if nat_lt 1 loop.factor then all_copies paths loop.factor else paths

-- Turns.

-- the copy of a loop to which a path inside it belongs
abbrev pub last_copy : Turning → Path → ℕ
last_copy loop path = if nat_lt 1 loop.factor then slice_index_or path (loop.depth - 1) 0 else 0

-- the iterator's value at a path in turn t
abbrev pub iterator_value : Turning → (turn : ℕ) → Path → ℕ
iterator_value loop turn path = loop.low + turn * loop.factor + last_copy loop path

-- a turn begins: at each path inside the loop the iterator has its value
abbrev pub turn_begun : Turning → (turn : ℕ) → (paths : List Path) → Variables → Variables
turn_begun loop turn [] variables = variables
turn_begun loop turn (path ∷ paths) variables = turn_begun loop turn paths (set_variable variables loop.iterator path (pos (iterator_value loop turn path)))

-- What is still to come.

-- what comes behind the block that is done
pub data RunTodo : Type 0 where
  -- nothing
  over : RunTodo
  -- these phases, at these paths
  phases_then : (paths : List Path) → CorePhases → RunTodo → RunTodo
  -- the rest of a turn is done: the next turns of a loop at these paths, with the number of the turn
  turn_then : (paths : List Path) → (loop : Turning) → (turn : ℕ) → (body : CorePhases) → RunTodo → RunTodo
  -- the test of a `while` is done
  test_then : (paths : List Path) → (test : CoreTerm) → (body : CorePhases) → RunTodo → RunTodo
  -- the body of a `while` is done, and its test comes again
  again_then : (paths : List Path) → (test : CoreTerm) → (body : CorePhases) → RunTodo → RunTodo
  -- the test of an `if` is done
  pick_then : (paths : List Path) → (test : CoreTerm) → (chosen other : CorePhases) → RunTodo → RunTodo

-- where a run stands: at its end, or at a block with what comes behind it
pub data RunPlace : Type 0 where
  ended : RunPlace
  at : (paths : List Path) → Block → RunTodo → RunPlace

-- a place, and the variables there
pub record RunNext : Type 0 where
  pub place : RunPlace
  pub variables : Variables

abbrev pub next : RunPlace → Variables → RunNext
next place variables = record { place = place; variables = variables }

-- the turns of a loop begin
abbrev pub begins : Turning → (paths : List Path) → Variables → Variables
begins loop paths variables = turn_begun loop 0 (inner_paths paths loop) variables

abbrev mutual
  -- Into phases at these paths: to their first block, or to what lies behind where they have none. `k` is what
  -- comes behind their last block.
  pub enter : (paths : List Path) → CorePhases → (k : RunTodo) → (behind : RunNext) → Variables → RunNext
  enter paths no_core_phases k behind variables = behind
  enter paths (phase_and p ps) k behind variables = enter_phase paths p (phases_then paths ps k) (enter paths ps k behind variables) variables

  pub enter_phase : (paths : List Path) → CorePhase → (k : RunTodo) → (behind : RunNext) → Variables → RunNext
  enter_phase paths (straightly cs) k behind variables = next (at paths (commands cs) k) variables
  enter_phase paths (turning loop body) k behind variables =
      if loop.count == 0 then behind
      else enter (inner_paths paths loop) body (turn_then paths loop 0 body k) behind (begins loop paths variables)
  enter_phase paths (looping test body) k behind variables = next (at paths (tests test) (test_then paths test body k)) variables
  enter_phase paths (choosing test chosen other) k behind variables = next (at paths (tests test) (pick_then paths test chosen other k)) variables

-- A test that takes a step stands in no unrolled loop, so that there is one path.
abbrev pub first_path : List Path → Path
first_path [] = []
first_path (path ∷ paths) = path

abbrev pub goes_on : Begun → Variables → (paths : List Path) → CoreTerm → Bool
goes_on b variables paths test = holds_at b variables test (first_path paths)

-- behind a block that is done: to the next one
abbrev pub next_of : Begun → RunTodo → Variables → RunNext
next_of b over variables = next ended variables
next_of b (phases_then paths ps k) variables = enter paths ps k (next_of b k variables) variables
next_of b (turn_then paths loop turn body k) variables =
    if nat_lt (suc turn) loop.count
    then enter (inner_paths paths loop) body (turn_then paths loop (suc turn) body k) (next ended variables) (turn_begun loop (suc turn) (inner_paths paths loop) variables)
    else next_of b k variables
next_of b (test_then paths test body k) variables =
    if goes_on b variables paths test
    then enter paths body (again_then paths test body k) (next (at paths (tests test) (test_then paths test body k)) variables) variables
    else next_of b k variables
next_of b (again_then paths test body k) variables = next (at paths (tests test) (test_then paths test body k)) variables
next_of b (pick_then paths test chosen other k) variables =
    if goes_on b variables paths test then enter paths chosen k (next_of b k variables) variables else enter paths other k (next_of b k variables) variables

-- Steps.

-- what the next step does
abbrev pub place_run : Begun → RunPlace → Effect → Effect
place_run b ended e = e
place_run b (at paths block k) e = block_run b paths block e

-- where it then stands, by the variables that it leaves
abbrev pub place_after : Begun → RunPlace → Variables → RunNext
place_after b ended variables = next ended variables
place_after b (at paths block k) variables = next_of b k variables

-- how a run stands: the steps that were done are those that neither faulted nor spent too much
pub record RunState : Type 0 where
  pub outcome : Outcome
  pub steps : ℕ
  pub memories : List (List ℕ)
  pub variables : Variables
  pub place : RunPlace

-- there is a next step, or no block remains
abbrev pub outcome_at : RunPlace → Outcome
outcome_at ended = Ended
outcome_at (at paths block k) = Going

abbrev pub stands_at : (steps : ℕ) → List (List ℕ) → RunNext → RunState
stands_at steps memories n = record { outcome = outcome_at n.place; steps = steps; memories = memories; variables = n.variables; place = n.place }

abbrev pub begun_at : List MemEntry → RunState → Begun
begun_at table s = record { table = table; memories = s.memories }

-- what the next step does, from the variables as they are
abbrev pub step_effect : List MemEntry → RunState → Effect
step_effect table s = place_run (begun_at table s) s.place (record { variables = s.variables; events = [] })

-- a step that stops makes no write; else all its writes are made
abbrev pub state_after : List MemEntry → RunState → Effect → Option Outcome → RunState
state_after table s e None = stands_at (suc s.steps) (written e.events s.memories) (place_after (begun_at table s) s.place e.variables)
state_after table s e (Some outcome) = record s { outcome = outcome }

-- the next logical step, where there is one
abbrev pub step_from : List MemEntry → RunState → Outcome → RunState
step_from table s Going = state_after table s (step_effect table s) (stop_after table [] (step_effect table s).events)
step_from table s Ended = s
step_from table s (Faulted kind place) = s
step_from table s (Stuck memory bank place) = s

abbrev pub next_state : List MemEntry → RunState → RunState
next_state table s = step_from table s s.outcome

-- how the run of a program from these memories stands before its first step
abbrev pub first_state : CoreProgram → List (List ℕ) → RunState
first_state p memories = stands_at 0 memories (enter outer_paths p.phases over (next ended unset) unset)

-- how it stands after n logical steps
abbrev pub run_state : CoreProgram → List (List ℕ) → ℕ → RunState
run_state p memories zero = first_state p memories
run_state p memories (suc n) = next_state p.table (run_state p memories n)
