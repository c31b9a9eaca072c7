use Rattle.dh_phased.proofs.PhasesDone.{phases_are_done}
use Rattle.dh_phased.proofs.laws.phases_are_done.Goals as goal

pub returns : goal.returns
returns c = phases_are_done
