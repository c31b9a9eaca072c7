use Rattle.dh_phased.proofs.RoundsTop.{rounds_are_top}
use Rattle.dh_phased.proofs.laws.rounds_are_top.Goals as goal

pub returns : goal.returns
returns c = rounds_are_top
