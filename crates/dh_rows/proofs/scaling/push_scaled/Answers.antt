use Rattle.std.proofs.Common.{◌-◌}
use Rattle.dh_rows.proofs.TurnsOfBits.{below_bound, scaled_off, scaled_on}
use Rattle.dh_rows.proofs.scaling.push_scaled.Goals as goal

pub loop-by-preserved-then-has_bit : goal.loop-by-preserved-then-has_bit
loop-by-preserved-then-has_bit c =
    scaled_on c.loop-by.list c.args.value c.args.factor _ c.loop-by.by (c.loop-by.by - 1) c.loop-by.sum c.has_bit.result c.push_shifted.new.list c.push_sum.new.list c.in_ok-part.part c.in_ok-push_sum.field-0
    (below_bound c.loop-by.by c.loop-by-test.true) c.has_bit.ensures c.if-has_bit.true c.in_ok-part.ensures c.in_ok-push_sum.ensures c.loop-by.invariant

pub loop-by-preserved : goal.loop-by-preserved
loop-by-preserved c =
    scaled_off c.loop-by.list c.args.value c.args.factor _ c.loop-by.by (c.loop-by.by - 1) c.loop-by.sum c.has_bit.result (below_bound c.loop-by.by c.loop-by-test.true) c.has_bit.ensures c.if-has_bit.false
    c.loop-by.invariant
