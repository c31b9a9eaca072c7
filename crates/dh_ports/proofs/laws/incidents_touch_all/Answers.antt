use Rattle.dh_ports.proofs.TouchedSame.{action_same}
use Rattle.dh_ports.proofs.laws.incidents_touch_all.Goals as goal

pub returns : goal.returns
returns c = action_same
