use Rattle.dh_rows.proofs.PowersOfTwo.{power_past}
use Rattle.dh_rows.proofs.widths.is_power.Goals as goal

pub returns-else-length-lt64 : goal.returns-else-length-lt64
returns-else-length-lt64 c = power_past c.args.number c.args.length c.ranges.number.fits c.if-length-lt64.false
