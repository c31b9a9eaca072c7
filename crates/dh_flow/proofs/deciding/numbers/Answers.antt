use Rattle.dh_flow.proofs.TellsWays.{numbers_turn}
use Rattle.dh_flow.proofs.deciding.numbers.Goals as goal

pub loop-i-preserved : goal.loop-i-preserved
loop-i-preserved c =
    numbers_turn c.args.first c.args.count c.loop-i.i c.loop-i.next c.saturating_add-next.result c.loop-i.numbers.items c.push.new.self.items c.loop-i-test.true c.saturating_add-next.ensures c.in_ok-push.ensures.items c.loop-i.invariant
