use Rattle.dh_ports.proofs.LateTold.{told}
use Rattle.dh_ports.proofs.laws.late_reads_are_told.Goals as goal

pub returns : goal.returns
returns c = λ p events late h loops phases are finds. told p events h loops phases are late finds
