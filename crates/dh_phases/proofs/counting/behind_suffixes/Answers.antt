use Rattle.dh_phases.proofs.CountedParts.{next_pair}
use Rattle.dh_phases.proofs.counting.behind_suffixes.Goals as goal

pub loop-pair-preserved : goal.loop-pair-preserved
loop-pair-preserved c =
    next_pair c.loop-pair.next c.behind_term-next.result c.args.first _ c.args.by.now c.loop-pair.pair-index c.pair-item.result c.loop-pair-test.true c.pair-item.is c.behind_term-next.ensures c.loop-pair.invariant
