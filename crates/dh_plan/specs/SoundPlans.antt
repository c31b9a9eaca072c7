-- When a plan is sound: it is well formed, and in no step does it reach a bank more often than its accesses charge,
-- whatever values of their kinds registers and memories hold, and whether or not a run comes there. And when it is addressed.
-- (Ports as affine resources are of Nigam and others, PLDI 2020; that a plan carries them is this project's.)
use Rattle.std.specs.Prelude.{◌≡◌, ◌⊎◌, ℕ, suc, ◌<◌, ◌≤◌, ◌^◌, ◌==◌, ◌&&◌, max, true, if◌then◌else◌, List, [], ◌∷◌, ◌++◌, slice_get, slice_index, Bool, Option, Some, None}
use Rattle.std.specs.List.{AllByRecursion}
use Rattle.dh_value.specs.declared.kinds.Kind.TheVariants as kind
use Rattle.dh_tree.specs.Elements.{Spot}
use Rattle.dh_tree.specs.Meets.{In, Distinct, Apart, Before, Together, total}
use Rattle.dh_tree.specs.Shapes.{IsProgramTable}
use Rattle.dh_tree.specs.ViewShapes.{IsViewMap}
use Rattle.dh_tree.specs.Elements.{ports_at}
use Rattle.dh_tree.specs.Tables.{Fits}
use Rattle.dh_plan.specs.declared.operations.Operation.{Operation}
use Rattle.dh_plan.specs.declared.operations.OperationForm.{OperationForm}
use Rattle.dh_plan.specs.declared.operations.OperationForm.TheVariants.{Constant, Old, Compute, Convert, Select, Check, Probe, Read, Write, Set}
use Rattle.dh_plan.specs.declared.operations.PlanBlock.{PlanBlock}
use Rattle.dh_plan.specs.declared.operations.Reach.{Reach}
use Rattle.dh_plan.specs.PlainPlans.{Node, block_node, turns_node, loop_node, choice_node, threads_node, Nodes, no_nodes, node_then, NodeLists, no_lists, list_then, PlainPlan, first_in, operations_in}
use Rattle.dh_plan.specs.Blocks.{StepStart, kind_at, is_on, spot_of_reach}
use Rattle.dh_plan.specs.Correspondence.{FitKinds}
use Rattle.dh_plan.specs.PlanRuns.{start_at, block_values}
use Rattle.dh_plan.specs.PlanKinds.{IsFormedBlock, Names}

-- Operations and their accesses.

-- what an operation accesses
abbrev pub access_in : OperationForm → Option Reach
access_in (Constant word) = None
access_in (Old register) = None
access_in (Compute op left right) = None
access_in (Convert inner to) = None
access_in (Select test a b) = None
access_in (Check ok fault) = None
access_in (Probe r fault) = Some r
access_in (Read r) = Some r
access_in (Write r value) = Some r
access_in (Set register value) = None

-- what it reads or writes
abbrev pub use_in : OperationForm → Option Reach
use_in (Constant word) = None
use_in (Old register) = None
use_in (Compute op left right) = None
use_in (Convert inner to) = None
use_in (Select test a b) = None
use_in (Check ok fault) = None
use_in (Probe r fault) = None
use_in (Read r) = Some r
use_in (Write r value) = Some r
use_in (Set register value) = None

abbrev pub writes_memory : OperationForm → Type 0
writes_memory (Write r value) = Unit {0}
writes_memory _ = ⊥

-- the operation of this place in this block of a plan has this access
pub record HasAccess (plan : PlainPlan) (block i : ℕ) (r : Reach) : Type 0 where
  pub operation : Operation
  pub there : slice_get (operations_in plan block) i ≡ Some operation
  pub accesses : access_in operation.form ≡ Some r

-- it reads or writes so
pub record HasUse (plan : PlainPlan) (block i : ℕ) (r : Reach) : Type 0 where
  pub operation : Operation
  pub there : slice_get (operations_in plan block) i ≡ Some operation
  pub uses : use_in operation.form ≡ Some r

-- a bank is listed, with this place
abbrev pub IsListed : (bank place : ℕ) → List (ℕ × ℕ) → Type 0
IsListed bank place [] = ⊥
IsListed bank place (b ∷ bs) = ((b.0 ≡ bank) × (b.1 ≡ place)) ⊎ IsListed bank place bs

-- The charge of an access on a bank of a memory: 1 and the greatest place there of its operations, 0 where none can
-- reach it.

abbrev pub place_charge : (bank : ℕ) → List (ℕ × ℕ) → ℕ
place_charge bank [] = 0
place_charge bank (b ∷ bs) = if b.0 == bank then max (suc b.1) (place_charge bank bs) else place_charge bank bs

abbrev pub use_charge : (access memory bank : ℕ) → Option Reach → ℕ
use_charge access memory bank None = 0
use_charge access memory bank (Some r) = if (r.access == access) && (r.memory == memory) then place_charge bank r.banks else 0

abbrev pub operations_charge : (access memory bank : ℕ) → List Operation → ℕ
operations_charge access memory bank [] = 0
operations_charge access memory bank (o ∷ os) = max (use_charge access memory bank (use_in o.form)) (operations_charge access memory bank os)

abbrev pub blocks_charge : (access memory bank : ℕ) → List PlanBlock → ℕ
blocks_charge access memory bank [] = 0
blocks_charge access memory bank (b ∷ bs) = max (operations_charge access memory bank b.operations) (blocks_charge access memory bank bs)

abbrev pub plan_charge : PlainPlan → (memory bank access : ℕ) → ℕ
plan_charge plan memory bank access = blocks_charge access memory bank plan.blocks

-- No set of accesses of which any two may meet charges a bank beyond its ports.
abbrev pub KeepsItsPorts : PlainPlan → Type 0
KeepsItsPorts plan =
    (chosen : ℕ → Bool) → Together plan.meets chosen → (memory bank : ℕ) → total (plan_charge plan memory bank) chosen plan.meets ≤ ports_at plan.table memory

-- Nodes.

-- a counter, and the turns that it counts
pub record Counting : Type 0 where
  pub counter : ℕ
  pub turns : ℕ

abbrev mutual
  -- the loops of nodes, in order
  pub countings : Nodes → List Counting
  countings no_nodes = []
  countings (node_then n ns) = node_countings n ++ countings ns

  pub node_countings : Node → List Counting
  node_countings (block_node block) = []
  node_countings (turns_node counter turns body) = record { counter = counter; turns = turns } ∷ countings body
  node_countings (loop_node test flag body) = countings body
  node_countings (choice_node test flag chosen other) = countings chosen ++ countings other
  node_countings (threads_node lists) = list_countings lists

  pub list_countings : NodeLists → List Counting
  list_countings no_lists = []
  list_countings (list_then ns lists) = countings ns ++ list_countings lists

abbrev mutual
  -- the blocks of nodes, in order
  pub blocks_of : Nodes → List ℕ
  blocks_of no_nodes = []
  blocks_of (node_then n ns) = node_blocks n ++ blocks_of ns

  pub node_blocks : Node → List ℕ
  node_blocks (block_node block) = block ∷ []
  node_blocks (turns_node counter turns body) = blocks_of body
  node_blocks (loop_node test flag body) = test ∷ blocks_of body
  node_blocks (choice_node test flag chosen other) = test ∷ (blocks_of chosen ++ blocks_of other)
  node_blocks (threads_node lists) = list_blocks lists

  pub list_blocks : NodeLists → List ℕ
  list_blocks no_lists = []
  list_blocks (list_then ns lists) = blocks_of ns ++ list_blocks lists

abbrev mutual
  -- the flags of nodes, in order
  pub flags_of : Nodes → List ℕ
  flags_of no_nodes = []
  flags_of (node_then n ns) = node_flags n ++ flags_of ns

  pub node_flags : Node → List ℕ
  node_flags (block_node block) = []
  node_flags (turns_node counter turns body) = flags_of body
  node_flags (loop_node test flag body) = flag ∷ flags_of body
  node_flags (choice_node test flag chosen other) = flag ∷ (flags_of chosen ++ flags_of other)
  node_flags (threads_node lists) = list_flags lists

  pub list_flags : NodeLists → List ℕ
  list_flags no_lists = []
  list_flags (list_then ns lists) = flags_of ns ++ list_flags lists

-- it is one of these
abbrev pub IsOneOf : (n : ℕ) → List ℕ → Type 0
IsOneOf n [] = ⊥
IsOneOf n (m ∷ ms) = (n ≡ m) ⊎ IsOneOf n ms

-- accesses of blocks of the first list may meet those of blocks of the second, and stand before them
abbrev pub GoSideBySide : PlainPlan → (first second : List ℕ) → Type 0
GoSideBySide plan first second =
    (b c i j : ℕ) (r t : Reach) → IsOneOf b first → IsOneOf c second → HasAccess plan b i r → HasAccess plan c j t
    → (Apart plan.meets r.access t.access → ⊥) × Before plan.meets r.access t.access

abbrev mutual
  -- so of the lists of all threads
  pub ThreadsMeet : PlainPlan → Nodes → Type 0
  ThreadsMeet plan no_nodes = Unit {0}
  ThreadsMeet plan (node_then n ns) = NodeThreadsMeet plan n × ThreadsMeet plan ns

  pub NodeThreadsMeet : PlainPlan → Node → Type 0
  NodeThreadsMeet plan (block_node block) = Unit {0}
  NodeThreadsMeet plan (turns_node counter turns body) = ThreadsMeet plan body
  NodeThreadsMeet plan (loop_node test flag body) = ThreadsMeet plan body
  NodeThreadsMeet plan (choice_node test flag chosen other) = ThreadsMeet plan chosen × ThreadsMeet plan other
  NodeThreadsMeet plan (threads_node lists) = ListsMeet plan lists

  pub ListsMeet : PlainPlan → NodeLists → Type 0
  ListsMeet plan no_lists = Unit {0}
  ListsMeet plan (list_then ns lists) = ThreadsMeet plan ns × (GoSideBySide plan (blocks_of ns) (list_blocks lists) × ListsMeet plan lists)

-- What is of the form of a plan.

-- a counter is an unsigned register that has every number below the count
abbrev pub CountsTurns : PlainPlan → Counting → Type 0
CountsTurns plan c = Names plan.registers c.counter × ((w : ℕ) × ((kind_at plan.registers c.counter ≡ kind.Unsigned w) × (c.turns ≤ 2 ^ w)))

-- each counter is so, and of no other loop
pub record AreCounters (plan : PlainPlan) (cs : List Counting) : Type 0 where
  pub wide : AllByRecursion (CountsTurns plan) cs
  pub apart : (i j : ℕ) (c d : Counting) → slice_get cs i ≡ Some c → slice_get cs j ≡ Some d → c.counter ≡ d.counter → i ≡ j

-- a flag is a register that holds true or false
abbrev pub IsFlag : PlainPlan → (flag : ℕ) → Type 0
IsFlag plan flag = Names plan.registers flag × (kind_at plan.registers flag ≡ kind.Bool)

-- no operation sets this register
abbrev pub IsNeverSet : PlainPlan → (register : ℕ) → Type 0
IsNeverSet plan register =
    (block i : ℕ) (guard : Option ℕ) (value : ℕ) → slice_get (operations_in plan block) i ≡ Some (record { guard = guard; form = Set register value }) → ⊥

-- no operation sets the counter of a loop
abbrev pub KeepsCounter : PlainPlan → Counting → Type 0
KeepsCounter plan c = IsNeverSet plan c.counter

pub record IsFormed (plan : PlainPlan) : Type 0 where
  pub table : IsProgramTable plan.table
  pub views : AllByRecursion IsViewMap plan.views
  pub blocks : (block : ℕ) → IsFormedBlock plan block
  pub nodes : AllByRecursion (λ b. Names plan.blocks b) (blocks_of plan.body)
  -- each access is one of those that may meet, where none stands twice, and is of one memory
  pub distinct : Distinct plan.meets
  pub met : (block i : ℕ) (r : Reach) → HasAccess plan block i r → In r.access plan.meets
  pub one_memory : (b c i j : ℕ) (r t : Reach) → HasAccess plan b i r → HasAccess plan c j t → r.access ≡ t.access → r.memory ≡ t.memory
  pub threads : ThreadsMeet plan plan.body
  pub counters : AreCounters plan (countings plan.body)
  pub counters_kept : AllByRecursion (KeepsCounter plan) (countings plan.body)
  pub flags : AllByRecursion (IsFlag plan) (flags_of plan.body)

-- What is of its steps.

-- blocks and loops of the one, and then of the other
pub record StepsTogether (First Second : List ℕ → List Counting → Type 0) (blocks : List ℕ) (loops : List Counting) : Type 0 where
  pub first_blocks : List ℕ
  pub second_blocks : List ℕ
  pub first_loops : List Counting
  pub second_loops : List Counting
  pub first : First first_blocks first_loops
  pub second : Second second_blocks second_loops
  pub all_blocks : blocks ≡ first_blocks ++ second_blocks
  pub all_loops : loops ≡ first_loops ++ second_loops

abbrev mutual
  -- A step may do these blocks: that of one node, or those of nodes of which any two stand in different lists of
  -- one group of threads; `round` are the loops round the nodes, and `loops` those round all of these blocks.
  pub IsStepOf : (round : List Counting) → Nodes → (blocks : List ℕ) → (loops : List Counting) → Type 0
  IsStepOf round no_nodes blocks loops = ⊥
  IsStepOf round (node_then n ns) blocks loops = IsStepOfNode round n blocks loops ⊎ IsStepOf round ns blocks loops

  pub IsStepOfNode : (round : List Counting) → Node → (blocks : List ℕ) → (loops : List Counting) → Type 0
  IsStepOfNode round (block_node block) blocks loops = (blocks ≡ block ∷ []) × (loops ≡ round)
  IsStepOfNode round (turns_node counter turns body) blocks loops = IsStepOf (round ++ record { counter = counter; turns = turns } ∷ []) body blocks loops
  IsStepOfNode round (loop_node test flag body) blocks loops = ((blocks ≡ test ∷ []) × (loops ≡ round)) ⊎ IsStepOf round body blocks loops
  IsStepOfNode round (choice_node test flag chosen other) blocks loops =
      ((blocks ≡ test ∷ []) × (loops ≡ round)) ⊎ (IsStepOf round chosen blocks loops ⊎ IsStepOf round other blocks loops)
  IsStepOfNode round (threads_node lists) blocks loops = IsStepOfLists round lists blocks loops

  -- of one thread, or of one and of later ones
  pub IsStepOfLists : (round : List Counting) → NodeLists → (blocks : List ℕ) → (loops : List Counting) → Type 0
  IsStepOfLists round no_lists blocks loops = ⊥
  IsStepOfLists round (list_then ns lists) blocks loops =
      IsStepOfLists round lists blocks loops
      ⊎ (IsStepOf round ns blocks loops ⊎ StepsTogether (IsStepOf round ns) (IsStepOfLists round lists) blocks loops)

-- an operation of one of these blocks leads, where its guard holds and it is in range, to this element
pub record Reaches (plan : PlainPlan) (s : StepStart) (blocks : List ℕ) (block i : ℕ) (r : Reach) (spot : Spot) : Type 0 where
  pub active : IsOneOf block blocks
  pub operation : Operation
  pub there : slice_get (operations_in plan block) i ≡ Some operation
  pub uses : use_in operation.form ≡ Some r
  pub on : is_on (first_in plan block) (block_values plan s block) operation.guard ≡ true
  pub leads : spot_of_reach s (first_in plan block) (block_values plan s block) r ≡ Some spot

-- one of these blocks stands before another
abbrev pub ComesBefore : (b c : ℕ) → List ℕ → Type 0
ComesBefore b c [] = ⊥
ComesBefore b c (d ∷ ds) = ((b ≡ d) × IsOneOf c ds) ⊎ ComesBefore b c ds

-- an operation comes before another in a step
abbrev pub OperationBefore : (blocks : List ℕ) → (b i c j : ℕ) → Type 0
OperationBefore blocks b i c j = ComesBefore b c blocks ⊎ ((b ≡ c) × (i < j))

-- it is a write
pub record WritesAt (plan : PlainPlan) (block i : ℕ) : Type 0 where
  pub operation : Operation
  pub there : slice_get (operations_in plan block) i ≡ Some operation
  pub writes : writes_memory operation.form

-- the place of the first on a bank is less than that of the second
abbrev pub RisesIn : (bank : ℕ) → (first second : List (ℕ × ℕ)) → Type 0
RisesIn bank first second = (m n : ℕ) → IsListed bank m first → IsListed bank n second → m < n

-- both lead into one bank
pub record InOneBank (first second : Spot) : Type 0 where
  pub memory : first.memory ≡ second.memory
  pub bank : first.bank ≡ second.bank

-- a step that begins so, and does these blocks, keeps the banks
pub record KeepsBanks (plan : PlainPlan) (s : StepStart) (blocks : List ℕ) : Type 0 where
  -- an operation reaches only banks of its list
  pub listed : (b i : ℕ) (r : Reach) (spot : Spot) → Reaches plan s blocks b i r spot → (place : ℕ) × IsListed spot.bank place r.banks
  -- of two operations whose accesses never meet one at most reaches a bank
  pub never : (b i c j : ℕ) (r t : Reach) (x y : Spot) → Reaches plan s blocks b i r x → Reaches plan s blocks c j t y → Apart plan.meets r.access t.access → ⊥
  -- two operations of one access with one place on a bank do not both reach it
  pub placed : (b i c j place : ℕ) (r t : Reach) (x y : Spot) → Reaches plan s blocks b i r x → Reaches plan s blocks c j t y → r.access ≡ t.access → InOneBank x y
      → IsListed x.bank place r.banks → IsListed x.bank place t.banks → (b ≡ c) × (i ≡ j)
  -- of two writes to one bank the later is of a later access, or of the same with a greater place
  pub ordered : (b i c j : ℕ) (r t : Reach) (x y : Spot) → Reaches plan s blocks b i r x → Reaches plan s blocks c j t y → InOneBank x y
      → WritesAt plan b i → WritesAt plan c j → OperationBefore blocks b i c j
      → Before plan.meets r.access t.access ⊎ ((r.access ≡ t.access) × RisesIn x.bank r.banks t.banks)

-- whatever registers and memories hold of their kinds, with each loop round the blocks in a turn of its own
abbrev pub StepsKeepBanks : PlainPlan → Type 0
StepsKeepBanks plan =
    (blocks : List ℕ) (loops : List Counting) → IsStepOf [] plan.body blocks loops
    → (registers : List ℕ) (memories : List (List ℕ)) → FitKinds plan.registers registers → Fits plan.table memories
    → AllByRecursion (λ c. slice_index registers c.counter < c.turns) loops
    → KeepsBanks plan (start_at plan registers memories) blocks

pub record IsSound (plan : PlainPlan) : Type 0 where
  pub formed : IsFormed plan
  pub steps : StepsKeepBanks plan

-- Addressed plans.

-- no probe, and each access is of a row of a bank
abbrev pub FormAddressed : OperationForm → Type 0
FormAddressed (Constant word) = Unit {0}
FormAddressed (Old register) = Unit {0}
FormAddressed (Compute op left right) = Unit {0}
FormAddressed (Convert inner to) = Unit {0}
FormAddressed (Select test a b) = Unit {0}
FormAddressed (Check ok fault) = Unit {0}
FormAddressed (Probe r fault) = ⊥
FormAddressed (Read r) = (row : ℕ) × (r.row ≡ Some row)
FormAddressed (Write r value) = (row : ℕ) × (r.row ≡ Some row)
FormAddressed (Set register value) = Unit {0}

-- where an operation's guard holds it is in range
pub record IsInRange (plan : PlainPlan) (s : StepStart) (block i : ℕ) (r : Reach) (o : Operation) : Type 0 where
  pub spot : Spot
  pub leads : spot_of_reach s (first_in plan block) (block_values plan s block) r ≡ Some spot

pub record IsAddressed (plan : PlainPlan) : Type 0 where
  pub forms : (block i : ℕ) (o : Operation) → slice_get (operations_in plan block) i ≡ Some o → FormAddressed o.form
  pub inside : (blocks : List ℕ) (loops : List Counting) → IsStepOf [] plan.body blocks loops
      → (registers : List ℕ) (memories : List (List ℕ)) → FitKinds plan.registers registers → Fits plan.table memories
      → AllByRecursion (λ c. slice_index registers c.counter < c.turns) loops
      → (block i : ℕ) (r : Reach) (o : Operation) → IsOneOf block blocks → slice_get (operations_in plan block) i ≡ Some o → use_in o.form ≡ Some r
      → is_on (first_in plan block) (block_values plan (start_at plan registers memories) block) o.guard ≡ true
      → IsInRange plan (start_at plan registers memories) block i r o
