use Rattle.dh_unroll.proofs.ReachedSets.{nothing_in}
use Rattle.dh_unroll.proofs.viewing.nothing.Goals as goal

pub returns : goal.returns
returns c = nothing_in
