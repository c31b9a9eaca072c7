use Rattle.dh_value.proofs.Masks.{greatest}
use Rattle.dh_value.proofs.bits.mask.Goals as goal

pub returns : goal.returns
returns c = greatest c.args.width c.requires.1
