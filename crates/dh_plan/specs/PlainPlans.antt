-- Plans as plain data, without memory management. A plan is what a program's phases become before there is a
-- netlist: blocks of operations, and nodes that say in which order they are done. (Plans are this project's.)
use Rattle.std.specs.Prelude.{ℕ, zero, suc, ◌+◌, List, [], ◌∷◌, length, slice_get, Option, Some, None}
use Rattle.dh_base.specs.declared.outcomes.FaultKind.{FaultKind}
use Rattle.dh_base.specs.declared.places.Place.{Place}
use Rattle.dh_value.specs.declared.kinds.Kind.{Kind}
use Rattle.dh_tree.specs.declared.tables.MemEntry.{MemEntry}
use Rattle.dh_tree.specs.Meets.{Meets}
use Rattle.dh_plan.specs.declared.operations.Operation.{Operation}
use Rattle.dh_plan.specs.declared.operations.PlanBlock.{PlanBlock}
use Rattle.dh_tree.specs.declared.viewing.ViewMap.{ViewMap}

mutual
  -- a phase of a plan; blocks and registers go by their numbers
  pub data Node : Type 0 where
    -- a block that is done in one logical step
    block_node : (block : ℕ) → Node
    -- turns of a body; the counter holds the number of the turn
    turns_node : (counter turns : ℕ) → (body : Nodes) → Node
    -- a test block, and where the flag then holds the body and the whole again
    loop_node : (test flag : ℕ) → (body : Nodes) → Node
    -- a test block, and where the flag then holds the first arm, else the second
    choice_node : (test flag : ℕ) → (chosen other : Nodes) → Node
    -- lists of phases side by side, which end together
    threads_node : (lists : NodeLists) → Node

  -- phases in order
  pub data Nodes : Type 0 where
    no_nodes : Nodes
    node_then : Node → Nodes → Nodes

  pub data NodeLists : Type 0 where
    no_lists : NodeLists
    list_then : Nodes → NodeLists → NodeLists

pub record PlainPlan : Type 0 where
  pub table : List MemEntry
  pub views : List ViewMap
  -- the kinds of the registers
  pub registers : List Kind
  pub blocks : List PlanBlock
  pub body : Nodes
  pub meets : Meets
  pub faults : List (FaultKind × Place)

-- how many operations the first n blocks have together
abbrev pub operations_before : List PlanBlock → (n : ℕ) → ℕ
operations_before [] n = 0
operations_before (b ∷ bs) zero = 0
operations_before (b ∷ bs) (suc n) = length b.operations + operations_before bs n

-- the number of a block's first operation
abbrev pub first_in : PlainPlan → (block : ℕ) → ℕ
first_in plan block = operations_before plan.blocks block

abbrev pub block_operations : Option PlanBlock → List Operation
block_operations None = []
block_operations (Some b) = b.operations

-- the operations of a block, none where there is no such block
abbrev pub operations_in : PlainPlan → (block : ℕ) → List Operation
operations_in plan block = block_operations (slice_get plan.blocks block)

-- how many operations a plan has
abbrev pub operation_count : PlainPlan → ℕ
operation_count plan = operations_before plan.blocks (length plan.blocks)
