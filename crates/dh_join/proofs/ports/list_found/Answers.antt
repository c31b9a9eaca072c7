use Rattle.dh_join.proofs.PortsListed.{found_listed}
use Rattle.dh_join.proofs.ports.list_found.Goals as goal

pub returns : goal.returns
returns c = found_listed _ _ _ c.args.read c.args.write c.new-drivers.ensures c.in_ok-push_found.ensures c.in_ok-push_found-2.ensures
