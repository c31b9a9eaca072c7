use Rattle.dh_ports.proofs.PlacesOnce.{one_first, none_first}
use Rattle.dh_ports.proofs.laws.port_breaches_are_one.Goals as goal

pub returns : goal.returns
returns c = record { one = one_first; none = none_first }
