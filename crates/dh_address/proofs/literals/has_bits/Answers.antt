use Rattle.dh_address.proofs.BitsPast.{below_past}
use Rattle.dh_address.proofs.literals.has_bits.Goals as goal

pub returns-then-bits-ge64 : goal.returns-then-bits-ge64
returns-then-bits-ge64 c = below_past c.args.number c.args.bits c.ranges.number.fits c.if-bits-ge64.true
