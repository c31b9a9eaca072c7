use Rattle.dh_ports.proofs.SharedFound.{shared_found}
use Rattle.dh_ports.proofs.laws.shared_reads_are_found.Goals as goal

pub returns : goal.returns
returns c = shared_found
