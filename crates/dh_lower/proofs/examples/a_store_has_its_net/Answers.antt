use Rattle.dh_lower.proofs.StoreNetMade.{store_net_made}
use Rattle.dh_lower.proofs.examples.a_store_has_its_net.Goals as goal

pub returns : goal.returns
returns c = store_net_made
