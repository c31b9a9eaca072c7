use Rattle.dh_ports.proofs.StrideTurns.{stride_found, stride_last, stride_next}
use Rattle.dh_ports.proofs.copies.stride_of.Goals as goal

pub returns-then-left-eq0 : goal.returns-then-left-eq0
returns-then-left-eq0 c = stride_found c.args.levels.now c.loop-level.level-index (record { factor = 0; stride = 0; share = 0 }) c.loop-level.left c.loop-level.stride _ c.loop-level-test.true c.loop-level.invariant c.if-left-eq0.true

pub loop-level-preserved : goal.loop-level-preserved
loop-level-preserved c = stride_next c.args.levels.now c.loop-level.level-index (record { factor = 0; stride = 0; share = 0 }) c.loop-level.left c.loop-level.stride _ c.loop-level-test.true c.loop-level.invariant c.if-left-eq0.false

pub returns : goal.returns
returns c = stride_last c.args.levels.now c.loop-level.level-index c.loop-level.left c.loop-level.stride _ c.loop-level-test.false c.loop-level.invariant
