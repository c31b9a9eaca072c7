use Rattle.dh_types.proofs.Indices.{integer_next, integer_ended}
use Rattle.dh_types.proofs.finding.all_integer.Goals as goal

pub returns-then-not-is_number : goal.returns-then-not-is_number
returns-then-not-is_number c = integer_ended c.args.indices.now c.loop-index.index-index c.index-item.result c.is_number.result c.loop-index-test.true c.index-item.is c.is_number.ensures c.if-not-is_number.true c.loop-index.invariant

pub loop-index-preserved : goal.loop-index-preserved
loop-index-preserved c = integer_next c.args.indices.now c.loop-index.index-index c.index-item.result c.is_number.result c.loop-index-test.true c.index-item.is c.is_number.ensures c.if-not-is_number.false c.loop-index.invariant
