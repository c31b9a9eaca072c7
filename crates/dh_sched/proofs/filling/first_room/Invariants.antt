use Rattle.std.proofs.Common.{◌≡◌, ◌-◌, ◌≤◌, length}
use Rattle.std.specs.Prelude.{max}
use Rattle.dh_sched.specs.FullClocks.{AreFull, WaysSkipFullClocks}
use Rattle.dh_sched.proofs.filling.first_room.Given as goal

abbrev pub invariant-loop-next : goal.invariant-loop-next
invariant-loop-next l = record {
  both : length l.ways ≡ length l.counts;
  ways_kept : WaysSkipFullClocks l.limit l.counts l.ways;
  later : l.start ≤ l.at;
  near : l.at ≤ max l.start (length l.counts);
  full : AreFull l.limit l.counts l.start l.at;
}

abbrev pub decreases-loop-next : goal.decreases-loop-next
decreases-loop-next l = length l.counts - l.at
