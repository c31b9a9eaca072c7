use Rattle.std.proofs.Common.{length}
use Rattle.dh_extents.proofs.extents.+measure.Given as goal

abbrev pub decreases-measure : goal.decreases-measure
decreases-measure l = length l.dims.now
