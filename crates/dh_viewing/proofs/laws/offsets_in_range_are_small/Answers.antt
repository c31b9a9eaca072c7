use Rattle.dh_viewing.proofs.SmallOffsets.{small_offset}
use Rattle.dh_viewing.proofs.laws.offsets_in_range_are_small.Goals as goal

pub returns : goal.returns
returns c = small_offset
