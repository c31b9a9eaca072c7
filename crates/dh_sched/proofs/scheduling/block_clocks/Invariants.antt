use Rattle.std.proofs.Common.{take}
use Rattle.dh_sched.specs.LeastBlocks.{AreScheduled, AreDepths, AreCounts}
use Rattle.dh_sched.proofs.scheduling.block_clocks.Given as goal

abbrev pub invariant-loop-i : goal.invariant-loop-i
invariant-loop-i l = record {
  scheduled : AreScheduled l.limits l.first (take l.i l.operations) l.clocks.items;
  depths : AreDepths l.limits.chain l.first (take l.i l.operations) l.clocks.items l.depths.items;
  counts : AreCounts l.limits.multipliers (take l.i l.operations) l.clocks.items l.counts.items l.ways.items;
}
