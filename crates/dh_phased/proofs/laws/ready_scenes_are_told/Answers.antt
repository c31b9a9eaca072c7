use Rattle.dh_phased.proofs.ReachingPhases.{ready_scenes_are_told}
use Rattle.dh_phased.proofs.laws.ready_scenes_are_told.Goals as goal

pub returns : goal.returns
returns c = ready_scenes_are_told
