use Rattle.dh_swept.proofs.SweptRuns.{does_the_same}
use Rattle.dh_swept.proofs.laws.swept_nets_do_the_same.Goals as goal

pub returns : goal.returns
returns c = λ old new valid h. does_the_same old new valid h
