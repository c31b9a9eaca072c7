use Rattle.dh_value.proofs.Masks.{shr_none}
use Rattle.dh_value.proofs.operations.quotient.Goals as goal

pub returns-else-amount-lt64 : goal.returns-else-amount-lt64
returns-else-amount-lt64 c = shr_none c.args.bits c.args.amount c.ranges.bits.fits c.if-amount-lt64.false
