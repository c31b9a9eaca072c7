use Rattle.std.proofs.Common.{◌-◌}
use Rattle.std.proofs.lemmas.Nat.{pow_pos}
use Rattle.dh_value.proofs.Masks.{some_above}
use Rattle.dh_value.proofs.bits.is_high.Goals as goal

pub returns : goal.returns
returns c = some_above c.args.bits _ (pow_pos (c.args.width - 1))
