use Rattle.std.proofs.lemmas.Nat.{pow_pos}
use Rattle.dh_value.proofs.Masks.{none_below, wide}
use Rattle.dh_value.proofs.bits.is_below.Goals as goal

pub returns-then-width-ge128 : goal.returns-then-width-ge128
returns-then-width-ge128 c = wide c.args.number c.args.width c.ranges.number.fits c.if-width-ge128.true

pub returns-else-width-ge128 : goal.returns-else-width-ge128
returns-else-width-ge128 c = none_below c.args.number _ (pow_pos c.args.width)
