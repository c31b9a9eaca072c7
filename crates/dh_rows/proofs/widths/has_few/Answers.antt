use Rattle.dh_rows.proofs.PowersOfTwo.{few_past}
use Rattle.dh_rows.proofs.widths.has_few.Goals as goal

pub returns-else-width-lt64 : goal.returns-else-width-lt64
returns-else-width-lt64 c = few_past c.args.size c.args.width c.ranges.size.fits c.if-width-lt64.false
