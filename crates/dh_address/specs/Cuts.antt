-- Blocks out of the list of all their operations.
use Rattle.std.specs.Prelude.{◌≡◌, ℕ, ◌<◌, List, length, slice_index}
use Rattle.dh_plan.specs.declared.operations.Operation.{Operation}
use Rattle.dh_plan.specs.declared.operations.PlanBlock.{PlanBlock}
use Rattle.dh_address.specs.Images.{operations_until}

-- each block of these begins at its place among all operations
pub record AreStarts (blocks : List PlanBlock) (starts : List ℕ) : Type 0 where
  pub as_many : length starts ≡ length blocks
  pub each : (i : ℕ) → i < length blocks → slice_index starts i ≡ length (operations_until blocks i)

-- whatever blocks these operations are of, and begin there, they are found
abbrev pub IsCutIntoBlocks : List Operation → (starts : List ℕ) → List PlanBlock → Type 0
IsCutIntoBlocks os starts found = (blocks : List PlanBlock) → AreStarts blocks starts → os ≡ operations_until blocks (length blocks) → found ≡ blocks
