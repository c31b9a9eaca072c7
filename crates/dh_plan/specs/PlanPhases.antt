-- A plan does a program phase by phase: its nodes are the program's phases one for one, and each block does one
-- straight phase, or one test, from any memories and whatever the registers hold.
use Rattle.std.specs.Prelude.{◌≡◌, ◌⊎◌, ℕ, ◌||◌, ◌==◌, Bool, true, false, if◌then◌else◌, List, [], ◌∷◌, ◌++◌, slice_get, slice_index, Option, Some, None}
use Rattle.dh_base.specs.declared.outcomes.FaultKind.{FaultKind}
use Rattle.dh_base.specs.declared.places.Place.{Place}
use Rattle.dh_tree.specs.declared.tables.MemEntry.{MemEntry}
use Rattle.dh_meaning.specs.Core.{Turning, CoreTerm, literal, truth_literal, variable, read, binary, convert, Target, by_indices, by_row, CoreTerms, no_terms, term_and, CoreCommand, store, assign, choose, CoreCommands, no_commands, command_and, CorePhase, straightly, turning, looping, choosing, CorePhases, no_core_phases, phase_and}
use Rattle.dh_meaning.specs.Effects.{Variables, Effect, Block, commands, tests, block_run}
use Rattle.dh_meaning.specs.Levels.{any_assigns}
use Rattle.dh_meaning.specs.Paths.{Path}
use Rattle.dh_meaning.specs.Runs.{goes_on}
use Rattle.dh_plan.specs.declared.operations.OperationForm.TheVariants.{Old, Set}
use Rattle.dh_plan.specs.PlainPlans.{Node, block_node, turns_node, loop_node, choice_node, Nodes, no_nodes, node_then, PlainPlan, operations_in}
use Rattle.dh_plan.specs.Blocks.{StepStart, first_fault, puts_of, all_set}
use Rattle.dh_plan.specs.PlanRuns.{start_at, events_of_block, sets_of_block}
use Rattle.dh_plan.specs.SourceEffects.{failure_of, writes_of}
use Rattle.dh_plan.specs.Correspondence.{Slots, FitKinds, Holding, Round, paths_of_rounds, StandFor}
use Rattle.dh_meaning.specs.Core.{by_views, keep}
use Rattle.dh_meaning.specs.Levels.{assigns_to}

-- the first fault of a block is, by its number in the plan's list, this one of the program
abbrev pub NamesFault : List (FaultKind × Place) → (fault : Option ℕ) → (failure : Option (FaultKind × Place)) → Type 0
NamesFault faults None None = Unit {0}
NamesFault faults (Some f) (Some failure) = slice_get faults f ≡ Some failure
NamesFault faults None (Some failure) = ⊥
NamesFault faults (Some f) None = ⊥

-- what a block of the program does at the paths inside loops
abbrev pub source_effect : List MemEntry → List (List ℕ) → List Round → Block → Variables → Effect
source_effect table memories rounds b variables =
    block_run (record { table = table; memories = memories }) (paths_of_rounds rounds) b (record { variables = variables; events = [] })

-- In a step that begins so, a block of the plan does what the program did with this effect: its first fault is the
-- program's. Without a fault its writes are the program's, and registers then hold the program's variables.
pub record DoesEffect (plan : PlainPlan) (slots : Slots) (block : ℕ) (s : StepStart) (e : Effect) : Type 0 where
  pub fault : NamesFault plan.faults (first_fault (events_of_block plan s block)) (failure_of e.events)
  pub writes : failure_of e.events ≡ None → puts_of (events_of_block plan s block) ≡ writes_of e.events
  pub fit : failure_of e.events ≡ None → FitKinds s.kinds (all_set (sets_of_block plan s block) s.registers)
  pub holding : failure_of e.events ≡ None → Holding s.kinds slots (all_set (sets_of_block plan s block) s.registers) e.variables

-- so from any memories, and whatever the registers hold, with each loop round the block in a turn
abbrev pub DoesBlock : PlainPlan → Slots → List Round → Block → (block : ℕ) → Type 0
DoesBlock plan slots rounds b block =
    (registers : List ℕ) (memories : List (List ℕ)) (variables : Variables) → StandFor plan.registers slots rounds registers variables
    → DoesEffect plan slots block (start_at plan registers memories) (source_effect plan.table memories rounds b variables)

-- The flag of a test that a block makes holds behind it where the test does.
abbrev pub SetsFlag : PlainPlan → Slots → List Round → CoreTerm → (flag block : ℕ) → Type 0
SetsFlag plan slots rounds test flag block =
    (registers : List ℕ) (memories : List (List ℕ)) (variables : Variables) → StandFor plan.registers slots rounds registers variables
    → failure_of (source_effect plan.table memories rounds (tests test) variables).events ≡ None
    → slice_index (all_set (sets_of_block plan (start_at plan registers memories) block) registers) flag
    ≡ (if goes_on (record { table = plan.table; memories = memories }) variables (paths_of_rounds rounds) test then 1 else 0)

-- What a block sees and sets.

abbrev mutual
  -- an expression mentions a variable
  pub term_mentions : (entity : ℕ) → CoreTerm → Bool
  term_mentions entity (literal kind negative n) = false
  term_mentions entity (truth_literal value) = false
  term_mentions entity (variable kind depth other) = entity == other
  term_mentions entity (read reach target) = target_mentions entity target
  term_mentions entity (binary op left right) = term_mentions entity left || term_mentions entity right
  term_mentions entity (convert to inner) = term_mentions entity inner

  pub target_mentions : (entity : ℕ) → Target → Bool
  target_mentions entity (by_indices indices) = core_terms_mention entity indices
  target_mentions entity (by_views steps count terms) = core_terms_mention entity terms
  target_mentions entity (by_row bank row) = term_mentions entity row

  pub core_terms_mention : (entity : ℕ) → CoreTerms → Bool
  core_terms_mention entity no_terms = false
  core_terms_mention entity (term_and t ts) = term_mentions entity t || core_terms_mention entity ts

abbrev mutual
  -- so do commands, to which what they assign to counts
  pub command_mentions : (entity : ℕ) → CoreCommand → Bool
  command_mentions entity (store reach target value) = term_mentions entity value || target_mentions entity target
  command_mentions entity (assign depth other value) = (entity == other) || term_mentions entity value
  command_mentions entity (keep depth first values) = assigns_to entity (keep depth first values) || core_terms_mention entity values
  command_mentions entity (choose test chosen other) = term_mentions entity test || (commands_mention entity chosen || commands_mention entity other)

  pub commands_mention : (entity : ℕ) → CoreCommands → Bool
  commands_mention entity no_commands = false
  commands_mention entity (command_and c cs) = command_mentions entity c || commands_mention entity cs

abbrev pub block_mentions : (entity : ℕ) → Block → Bool
block_mentions entity (commands cs) = commands_mention entity cs
block_mentions entity (tests t) = term_mentions entity t

abbrev pub block_assigns : (entity : ℕ) → Block → Bool
block_assigns entity (commands cs) = any_assigns entity cs
block_assigns entity (tests t) = false

-- the register of a variable of which something is so
pub record IsRegisterOf (slots : Slots) (holds : ℕ → Bool) (register : ℕ) : Type 0 where
  pub entity : ℕ
  pub path : Path
  pub slot : slots entity path ≡ Some register
  pub so : holds entity ≡ true

abbrev pub IsCounterOf : List Round → (register : ℕ) → Type 0
IsCounterOf [] register = ⊥
IsCounterOf (r ∷ rs) register = (r.counter ≡ register) ⊎ IsCounterOf rs register

-- it is the iterator of one of these loops
abbrev pub IsIteratorOf : List Round → (entity : ℕ) → Type 0
IsIteratorOf [] entity = ⊥
IsIteratorOf (r ∷ rs) entity = (r.loop.iterator ≡ entity) ⊎ IsIteratorOf rs entity

-- A block of the plan sees only registers of variables that its block of the program mentions, and the counters of
-- the loops round it; it sets only registers of what that assigns to, and its flag.
pub record Touches (plan : PlainPlan) (slots : Slots) (rounds : List Round) (b : Block) (flag : Option ℕ) (block : ℕ) : Type 0 where
  pub sees : (i : ℕ) (guard : Option ℕ) (register : ℕ) → slice_get (operations_in plan block) i ≡ Some (record { guard = guard; form = Old register })
      → IsRegisterOf slots (λ entity. block_mentions entity b) register ⊎ IsCounterOf rounds register
  pub sets : (i : ℕ) (guard : Option ℕ) (register value : ℕ) → slice_get (operations_in plan block) i ≡ Some (record { guard = guard; form = Set register value })
      → IsRegisterOf slots (λ entity. block_assigns entity b) register ⊎ (flag ≡ Some register)
  -- and what it does assigns to no iterator of these loops
  pub spares : (entity : ℕ) → IsIteratorOf rounds entity → block_assigns entity b ≡ false

-- The nodes.

-- What is to hold of a block that does a straight phase, of one that makes a test with its flag, and of the
-- counter of a loop; each by the loops round it.
pub record Tie : Type 1 where
  pub of_block : List Round → CoreCommands → (block : ℕ) → Type 0
  pub of_test : List Round → CoreTerm → (flag block : ℕ) → Type 0
  pub of_loop : List Round → Turning → (counter : ℕ) → Type 0

-- tied in both ways, and in none
abbrev pub both_ties : Tie → Tie → Tie
both_ties a b = record {
  of_block = λ rounds cs block. a.of_block rounds cs block × b.of_block rounds cs block;
  of_test = λ rounds test flag block. a.of_test rounds test flag block × b.of_test rounds test flag block;
  of_loop = λ rounds loop counter. a.of_loop rounds loop counter × b.of_loop rounds loop counter;
}

abbrev pub no_tie : Tie
no_tie = record {
  of_block = λ rounds cs block. Unit {0};
  of_test = λ rounds test flag block. Unit {0};
  of_loop = λ rounds loop counter. Unit {0};
}

abbrev mutual
  -- Nodes are these phases one for one, of the same forms with the same numbers of turns, and each block, test and
  -- loop is tied so.
  pub AreNodesOf : Tie → List Round → CorePhases → Nodes → Type 0
  AreNodesOf tie rounds no_core_phases no_nodes = Unit {0}
  AreNodesOf tie rounds (phase_and p ps) (node_then n ns) = IsNodeOf tie rounds p n × AreNodesOf tie rounds ps ns
  AreNodesOf tie rounds no_core_phases (node_then n ns) = ⊥
  AreNodesOf tie rounds (phase_and p ps) no_nodes = ⊥

  pub IsNodeOf : Tie → List Round → CorePhase → Node → Type 0
  IsNodeOf tie rounds (straightly cs) (block_node block) = tie.of_block rounds cs block
  IsNodeOf tie rounds (turning loop body) (turns_node counter turns ns) =
      (turns ≡ loop.count) × (tie.of_loop rounds loop counter × AreNodesOf tie (rounds ++ record { loop = loop; counter = counter } ∷ []) body ns)
  IsNodeOf tie rounds (looping test body) (loop_node block flag ns) = tie.of_test rounds test flag block × AreNodesOf tie rounds body ns
  IsNodeOf tie rounds (choosing test chosen other) (choice_node block flag ns ms) =
      tie.of_test rounds test flag block × (AreNodesOf tie rounds chosen ns × AreNodesOf tie rounds other ms)
  IsNodeOf tie rounds p n = ⊥

-- The counter of a loop is neither a variable's register nor the counter of a loop round it; its iterator has no
-- register, and is not that of a loop round it.
pub record IsLoopRegister (slots : Slots) (rounds : List Round) (loop : Turning) (counter : ℕ) : Type 0 where
  pub iterator : (path : Path) → slots loop.iterator path ≡ None
  pub counter_apart : (entity : ℕ) (path : Path) → slots entity path ≡ Some counter → ⊥
  pub own_counter : IsCounterOf rounds counter → ⊥
  pub own_iterator : IsIteratorOf rounds loop.iterator → ⊥

-- each block does its phase
abbrev pub does_phases : PlainPlan → Slots → Tie
does_phases plan slots = record {
  of_block = λ rounds cs block. DoesBlock plan slots rounds (commands cs) block × Touches plan slots rounds (commands cs) None block;
  of_test = λ rounds test flag block. DoesBlock plan slots rounds (tests test) block × (SetsFlag plan slots rounds test flag block × Touches plan slots rounds (tests test) (Some flag) block);
  of_loop = λ rounds loop counter. IsLoopRegister slots rounds loop counter;
}

-- the plan does these phases, with registers that stand for variables so
abbrev pub DoesPhases : PlainPlan → Slots → CorePhases → Type 0
DoesPhases plan slots ps = AreNodesOf (does_phases plan slots) [] ps plan.body
