-- What the code's functions promise one another of the blocks of a plan.
use Rattle.std.specs.Prelude.{◌≡◌, ℕ, List, length}
use Rattle.dh_plan.specs.declared.operations.PlanBlock.{PlanBlock}
use Rattle.dh_plan.specs.PlainPlans.{PlainPlan}
use Rattle.dh_address.specs.Images.{IsBlockImage}

-- these are what the blocks of a plan become
pub record AreImages (p : PlainPlan) (blocks : List PlanBlock) : Type 0 where
  pub as_many : length blocks ≡ length p.blocks
  pub each : (block : ℕ) → IsBlockImage p blocks block
