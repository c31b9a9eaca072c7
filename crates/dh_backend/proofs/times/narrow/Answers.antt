use Rattle.dh_backend.proofs.SmallTimes.{low_turn}
use Rattle.dh_backend.proofs.times.narrow.Goals as goal

pub loop-number-preserved : goal.loop-number-preserved
loop-number-preserved c =
    low_turn c.args.numbers.now c.loop-number.number-index c.loop-number.words.items c.push.new.self.items c.loop-number-test.true c.loop-number.invariant c.in_ok-push.ensures.items
