use Rattle.std.proofs.Common.{false}
use Rattle.dh_size.proofs.ThroughBanks.{mark_found, mark_next, mark_none}
use Rattle.dh_size.proofs.through.any_mark.Goals as goal

pub loop-mark-preserved : goal.loop-mark-preserved
loop-mark-preserved c = mark_next c.args.marks.now c.loop-mark.mark-index false c.loop-mark-test.true c.loop-mark.invariant c.if-mark.false

pub returns-then-mark : goal.returns-then-mark
returns-then-mark c = mark_found c.args.marks.now c.loop-mark.mark-index false c.loop-mark-test.true c.loop-mark.invariant c.if-mark.true

pub returns : goal.returns
returns c = mark_none c.args.marks.now c.loop-mark.mark-index c.loop-mark-test.false c.loop-mark.invariant
