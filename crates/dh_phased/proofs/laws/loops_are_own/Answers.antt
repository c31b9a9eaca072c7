use Rattle.dh_phased.proofs.LoopsCounted.{loops_are_own}
use Rattle.dh_phased.proofs.laws.loops_are_own.Goals as goal

pub returns : goal.returns
returns c = loops_are_own
