use Rattle.dh_charged.proofs.KeysLed.{all_leaders_are_keys}
use Rattle.dh_charged.proofs.laws.leaders_are_keys.Goals as goal

pub returns : goal.returns
returns c levels s counts = all_leaders_are_keys levels s counts
