use Rattle.std.proofs.Common.{◌≡◌, ℕ, ◌≤◌, drop, length}
use Rattle.std.specs.List.{AllByRecursion}
use Rattle.dh_plan.specs.LegalSchedules.{depths_behind, depths_in}
use Rattle.dh_sched.proofs.chains.chains_are_kept.Given as goal

abbrev pub invariant-loop-i : goal.invariant-loop-i
invariant-loop-i l = record {
  long : length l.depths.items ≡ l.i;
  so_far : depths_behind l.first l.clocks l.depths.items (drop l.i l.operations) ≡ depths_in l.first l.operations l.clocks;
  within : AllByRecursion (λ (d : ℕ). d ≤ l.limit) l.depths.items;
}
