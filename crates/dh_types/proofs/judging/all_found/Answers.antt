use Rattle.dh_types.proofs.Indices.{found_next, found_ended}
use Rattle.dh_types.proofs.judging.all_found.Goals as goal

pub returns-then-not-has_kind : goal.returns-then-not-has_kind
returns-then-not-has_kind c = found_ended c.args.indices.now c.loop-index.index-index c.index-item.result c.has_kind.result c.loop-index-test.true c.index-item.is c.has_kind.ensures c.if-not-has_kind.true c.loop-index.invariant

pub loop-index-preserved : goal.loop-index-preserved
loop-index-preserved c = found_next c.args.indices.now c.loop-index.index-index c.index-item.result c.has_kind.result c.loop-index-test.true c.index-item.is c.has_kind.ensures c.if-not-has_kind.false c.loop-index.invariant
