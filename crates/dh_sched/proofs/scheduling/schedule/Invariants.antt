use Rattle.dh_sched.specs.LeastBlocks.{AreDone}
use Rattle.dh_sched.proofs.scheduling.schedule.Given as goal

abbrev pub invariant-loop-block : goal.invariant-loop-block
invariant-loop-block l = AreDone l.limits l.blocks l.clocks.items l.lengths.items l.block-index
