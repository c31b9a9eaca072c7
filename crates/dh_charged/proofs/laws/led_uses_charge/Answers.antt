use Rattle.dh_charged.proofs.UsesCharge.{led_uses_charge}
use Rattle.dh_charged.proofs.laws.led_uses_charge.Goals as goal

pub returns : goal.returns
returns c scene levels sites os spread shares uses of = led_uses_charge scene levels sites os spread shares uses of
