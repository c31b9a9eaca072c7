-- Laws on schedules.
use Rattle.std.specs.Prelude.{◌≡◌, ℕ, ◌<◌, List, [], length, slice_index}
use Rattle.dh_plan.specs.declared.operations.Operation.{Operation}
use Rattle.dh_plan.specs.declared.schedules.Limits.{Limits}
use Rattle.dh_plan.specs.LegalSchedules.{Timing, IsLegalBlock, IsLeastSchedule, least_clocks, least_length, block_clocks}
use Rattle.dh_plan.specs.PlainPlans.{PlainPlan}
use Rattle.dh_plan.specs.Ordered.{IsOrdered}

abbrev pub without_limits : Limits
without_limits = record { multipliers = 0; chain = 0 }

-- where each operation takes earlier values, the least clocks are legal, and give the block its least length
abbrev pub LeastIsLegal : Type 0
LeastIsLegal = (first : ℕ) (os : List Operation) → IsOrdered first os → IsLegalBlock without_limits first os (least_clocks first [] [] os) (least_length first os)

-- without limits a least schedule gives each block its least length
abbrev pub HasLeastLengths : Type 0
HasLeastLengths = (plan : PlainPlan) (t : Timing) → IsLeastSchedule plan without_limits t → (block : ℕ) → block < length plan.blocks
    → slice_index t.lengths block ≡ block_clocks plan block
