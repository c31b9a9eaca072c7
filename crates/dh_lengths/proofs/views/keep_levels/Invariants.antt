use Rattle.std.proofs.Common.{◌+◌, drop}
use Rattle.dh_lengths.specs.KeptLevels.{SetsLevels}
use Rattle.dh_lengths.proofs.views.keep_levels.Given as goal

abbrev pub invariant-loop-i : goal.invariant-loop-i
invariant-loop-i l = SetsLevels l.fn.held l.held (l.first + l.i) (drop l.i l.levels)
