use Rattle.dh_ports.proofs.SpentTold.{spent_told}
use Rattle.dh_ports.proofs.laws.spent_ports_are_told.Goals as goal

pub returns : goal.returns
returns c = spent_told
