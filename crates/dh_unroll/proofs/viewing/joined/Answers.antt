use Rattle.dh_unroll.proofs.ReachedSets.{joined_in}
use Rattle.dh_unroll.proofs.viewing.joined.Goals as goal

pub returns : goal.returns
returns c = joined_in c.args.first.bits c.args.second.bits
