use Rattle.std.proofs.Common.{length}
use Rattle.dh_extents.proofs.extents.+place_in_bank.Given as goal

abbrev pub decreases-place_in_bank : goal.decreases-place_in_bank
decreases-place_in_bank l = length l.dims.now
