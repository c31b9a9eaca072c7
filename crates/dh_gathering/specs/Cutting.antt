-- The blocks that are cut out of one list of operations.
use Rattle.std.specs.Prelude.{◌≡◌, ℕ, suc, ◌<◌, ◌≤◌, List, length, take, drop, slice_get}
use Rattle.dh_plan.specs.declared.operations.Operation.{Operation}
use Rattle.dh_plan.specs.declared.operations.PlanBlock.{PlanBlock}
use Rattle.dh_plan.specs.PlainPlans.{block_operations, operations_before}
use Rattle.dh_gathering.specs.Growing.{place_among}

-- the operations from one place up to another
abbrev pub operations_between : List Operation → (begin end : ℕ) → List Operation
operations_between operations begin end = drop begin (take end operations)

-- places of which none lies before the one in front of it, nor behind all; the first is the begin
pub record AreRisingStarts (operations : List Operation) (starts : List ℕ) : Type 0 where
  pub first : place_among operations starts 0 ≡ 0
  pub rising : (block : ℕ) → place_among operations starts block ≤ place_among operations starts (suc block)

-- A block from each start up to the next one: the number of its first operation is its start.
pub record AreBlocksOf (operations : List Operation) (starts : List ℕ) (blocks : List PlanBlock) : Type 0 where
  pub count : length blocks ≡ length starts
  pub begins : (block : ℕ) → block ≤ length starts → operations_before blocks block ≡ place_among operations starts block
  pub own : (block : ℕ) → block < length starts
      → block_operations (slice_get blocks block) ≡ operations_between operations (place_among operations starts block) (place_among operations starts (suc block))

abbrev pub IsCutAtStarts : List Operation → (starts : List ℕ) → List PlanBlock → Type 0
IsCutAtStarts operations starts blocks = AreRisingStarts operations starts → AreBlocksOf operations starts blocks
