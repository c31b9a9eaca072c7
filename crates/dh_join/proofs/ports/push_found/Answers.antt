use Rattle.dh_join.proofs.PortsListed.{found_none, found_some}
use Rattle.dh_join.proofs.ports.push_found.Goals as goal

pub returns-in-None : goal.returns-in-None
returns-in-None c = found_none _ c.args.found c.in-None.is

pub returns-in_ok-push-in-Some : goal.returns-in_ok-push-in-Some
returns-in_ok-push-in-Some c = found_some _ _ c.args.found c.in-Some.driver c.in-Some.is c.in_ok-push-in-Some.ensures
