use Rattle.std.proofs.Common.{◌≡◌, ◌+◌, drop}
use Rattle.dh_size.specs.Sizes.{marked}
use Rattle.dh_size.proofs.banks.count_marks.Given as goal

abbrev pub invariant-loop-mark : goal.invariant-loop-mark
invariant-loop-mark l = l.count + marked (drop l.mark-index l.marks) ≡ marked l.marks
