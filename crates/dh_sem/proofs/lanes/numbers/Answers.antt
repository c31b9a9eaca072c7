use Rattle.dh_sem.proofs.LanesMade.{numbers_more}
use Rattle.dh_sem.proofs.lanes.numbers.Goals as goal

pub loop-i-preserved : goal.loop-i-preserved
loop-i-preserved c = numbers_more c.loop-i.all.items c.push.new.self.items c.loop-i.i c.loop-i.invariant c.in_ok-push.ensures.items
