use Rattle.std.proofs.lemmas.Nat.{pow_pos}
use Rattle.dh_value.proofs.Masks.{none_below}
use Rattle.dh_types.proofs.Widths.{all_within}
use Rattle.dh_types.proofs.sorts.is_within.Goals as goal

pub returns-then-width-ge64 : goal.returns-then-width-ge64
returns-then-width-ge64 c = all_within c.args.number c.args.width c.ranges.number.fits c.if-width-ge64.true

pub returns-else-width-ge64 : goal.returns-else-width-ge64
returns-else-width-ge64 c = none_below c.args.number _ (pow_pos c.args.width)
