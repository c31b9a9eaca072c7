-- One part on, and the end of parts of which no two meet.
use Rattle.std.proofs.Common.{arith}
use Rattle.dh_bind.proofs.WalkTurns.{all_part, one_part, one_ended}
use Rattle.dh_bind.proofs.walks.+walk.Goals as goal

pub walk_all-loop-part-preserved : goal.walk_all-loop-part-preserved
walk_all-loop-part-preserved t c =
    all_part _ c.args.parts.now c.loop-part.part-index c.part-item.result c.args.walker.now c.loop-part.walker c.walk.new.walker (omega arith) c.part-item.is c.loop-part.invariant c.in_ok-walk.ensures

pub walk_one-loop-part-preserved : goal.walk_one-loop-part-preserved
walk_one-loop-part-preserved t c =
    one_part _ c.args.parts.now c.loop-part.part-index c.part-item.result c.args.walker.now c.loop-part.walker c.walk.new.walker c.take_back.new.self c.loop-part.ends.items c.take_back.new.ends.items c.logged-begun.result
    (omega arith) c.part-item.is c.loop-part.invariant c.in_ok-walk.ensures c.in-Ok.ensures c.logged-begun.ensures

pub walk_one-returns : goal.walk_one-returns
walk_one-returns t c =
    one_ended _ c.args.parts.now c.loop-part.part-index c.args.walker.now c.loop-part.walker c.raise.new.self c.loop-part.ends.items c.as_slice.result.now (omega arith) c.loop-part.invariant c.as_slice.ensures.value
    c.in-Ok-raise.ensures.rises c.raise.ensures.costs c.raise.ensures.draft
