-- the number behind what is left is that behind all
use Rattle.std.proofs.Common.{drop}
use Rattle.dh_phases.proofs.CountedParts.{Left, suffixes_left}
use Rattle.dh_phases.proofs.counting.behind_suffixes.Given as goal

abbrev pub invariant-loop-pair : goal.invariant-loop-pair
invariant-loop-pair l = Left l.next (suffixes_left (drop l.pair-index l.by)) l.first (suffixes_left l.by)
