use Rattle.dh_size.specs.Summed.{suffix_operators}
use Rattle.dh_size.proofs.SummedParts.{next_suffix}
use Rattle.dh_size.proofs.operators.with_suffixes.Goals as goal

pub loop-pair-preserved : goal.loop-pair-preserved
loop-pair-preserved c =
    next_suffix c.loop-pair.next c.with_operators-next.result c.args.sum (suffix_operators c.args.by.now) c.args.by.now c.loop-pair.pair-index c.pair-item.result c.loop-pair-test.true c.pair-item.is c.with_operators-next.ensures c.loop-pair.invariant
