use Rattle.std.proofs.Common.{◌≡◌, ℕ, ◌<◌, ◌≤◌, length, take, drop, get_or}
use Rattle.std.specs.Prelude.{slice_get}
use Rattle.dh_plan.specs.LegalSchedules.{IsLegalBlock}
use Rattle.dh_plan.specs.PlainPlans.{operations_before, block_operations}
use Rattle.dh_sched.proofs.judging.legal.Given as goal

abbrev pub invariant-loop-number : goal.invariant-loop-number
invariant-loop-number l = record {
  first_is : l.first ≡ operations_before l.blocks l.number;
  within : l.first ≤ length l.clocks;
  legal : (b : ℕ) → b < l.number
      → IsLegalBlock l.limits (operations_before l.blocks b) (block_operations (slice_get l.blocks b))
      (take (length (block_operations (slice_get l.blocks b))) (drop (operations_before l.blocks b) l.clocks)) (get_or l.lengths b 0);
}
