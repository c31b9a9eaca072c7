use Rattle.dh_backend.proofs.PortsCarried.{plans_keep_ports, addresses_keep_ports}
use Rattle.dh_backend.proofs.laws.plans_keep_ports.Goals as goal

pub returns-clause-plans : goal.returns-clause-plans
returns-clause-plans c p = plans_keep_ports p

pub returns-clause-addresses : goal.returns-clause-addresses
returns-clause-addresses c = addresses_keep_ports
