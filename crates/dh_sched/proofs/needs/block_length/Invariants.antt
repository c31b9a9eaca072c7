use Rattle.std.proofs.Common.{◌≡◌, ◌+◌, ◌<◌, drop}
use Rattle.std.specs.Prelude.{max, ◌^◌}
use Rattle.dh_plan.specs.LegalSchedules.{last_clock}
use Rattle.dh_sched.proofs.needs.block_length.Given as goal

abbrev pub invariant-loop-i : goal.invariant-loop-i
invariant-loop-i l = record {
  small : l.last + 1 < 2 ^ 128;
  so_far : max l.last (last_clock (drop l.i l.operations) (drop l.i l.clocks)) ≡ last_clock l.operations l.clocks;
}
