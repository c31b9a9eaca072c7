use Rattle.dh_carried.proofs.WaysReached.{ways_reach}
use Rattle.dh_carried.proofs.laws.ways_reach_what_they_may.Goals as goal

pub returns : goal.returns
returns c ss dims indices offsets last leads is inside = ways_reach ss dims indices offsets last leads is inside
