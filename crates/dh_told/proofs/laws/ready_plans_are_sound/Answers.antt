use Rattle.dh_told.proofs.BlocksTold.{plans_told}
use Rattle.dh_told.proofs.laws.ready_plans_are_sound.Goals as goal

pub returns : goal.returns
returns c scene count plan final h = plans_told scene count plan final h
