use Rattle.std.proofs.Common.{take, ◌∙◌}
use Rattle.dh_tree.proofs.Collecting.{noted_next}
use Rattle.dh_tree.proofs.trees.counters.note_loops.Goals as goal

pub loop-counter-preserved : goal.loop-counter-preserved
loop-counter-preserved c = (
  c.note_loop.ensures.long ∙ c.loop-counter.invariant.0,
  λ h. noted_next c.args.found.now c.note_loop.new.slots c.loop-counter.counter-index _ c.loop-counter-test.true
      (c.note_loop.ensures.counted (take c.loop-counter.counter-index c.args.found.now) (c.loop-counter.invariant.1 h)),
)
