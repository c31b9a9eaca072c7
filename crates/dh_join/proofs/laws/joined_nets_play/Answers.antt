use Rattle.dh_join.proofs.SameRuns.{joined_plays}
use Rattle.dh_join.proofs.laws.joined_nets_play.Goals as goal

pub returns : goal.returns
returns c = λ old new valid h r start fits p. joined_plays old new valid h r start fits p
