use Rattle.dh_rows.proofs.PowersOfTwo.{bit_past}
use Rattle.dh_rows.proofs.widths.has_bit.Goals as goal

pub returns-else-by-lt64 : goal.returns-else-by-lt64
returns-else-by-lt64 c = bit_past c.args.number c.args.by c.ranges.number.fits c.if-by-lt64.false
