use Rattle.std.proofs.Common.{◌-◌}
use Rattle.std.proofs.lemmas.Nat.{pow_pos}
use Rattle.dh_value.proofs.Masks.{none_below}
use Rattle.dh_code.proofs.spots.is_natural.Goals as goal

pub returns : goal.returns
returns c = none_below c.args.bits _ (pow_pos (c.args.width - 1))
