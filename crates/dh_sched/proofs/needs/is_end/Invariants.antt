use Rattle.std.proofs.Common.{◌≡◌, ◌<◌, drop}
use Rattle.std.specs.Prelude.{max}
use Rattle.dh_plan.specs.LegalSchedules.{last_clock}
use Rattle.dh_sched.proofs.needs.is_end.Given as goal

abbrev pub invariant-loop-i : goal.invariant-loop-i
invariant-loop-i l = record {
  before_end : l.last < l.block_length;
  so_far : max l.last (last_clock (drop l.i l.operations) (drop l.i l.clocks)) ≡ last_clock l.operations l.clocks;
}
