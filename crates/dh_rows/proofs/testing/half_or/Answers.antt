use Rattle.std.proofs.Common.{◌-◌, rules}
use Rattle.dh_rows.proofs.PowersOfTwo.{half_least}
use Rattle.dh_rows.proofs.testing.half_or.Goals as goal

pub returns-then-has_few : goal.returns-then-has_few
returns-then-has_few c = half_least (c.args.width - 1) c.min.result c.args.size c.ranges.size.fits (search rules) (search rules)
