use Rattle.dh_lower.proofs.ReadNetMade.{read_net_made}
use Rattle.dh_lower.proofs.examples.a_picked_read_has_its_net.Goals as goal

pub returns : goal.returns
returns c = read_net_made
