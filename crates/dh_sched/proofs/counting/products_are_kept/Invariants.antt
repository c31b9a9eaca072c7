use Rattle.std.proofs.Common.{◌≡◌, ℕ, ◌+◌, ◌≤◌, drop}
use Rattle.dh_plan.specs.LegalSchedules.{products_at}
use Rattle.dh_sched.specs.Sorts.{count_in}
use Rattle.dh_sched.proofs.counting.products_are_kept.Given as goal

abbrev pub invariant-loop-i : goal.invariant-loop-i
invariant-loop-i l = record {
  so_far : (clock : ℕ) → count_in l.counts clock + products_at clock (drop l.i l.operations) (drop l.i l.clocks) ≡ products_at clock l.operations l.clocks;
  few : (clock : ℕ) → count_in l.counts clock ≤ l.limit;
}
