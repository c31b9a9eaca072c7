use Rattle.std.proofs.Common.{◌≡◌, drop}
use Rattle.dh_size.specs.Marks.{any_marked}
use Rattle.dh_size.proofs.through.any_mark.Given as goal

abbrev pub invariant-loop-mark : goal.invariant-loop-mark
invariant-loop-mark l = any_marked (drop l.mark-index l.marks) ≡ any_marked l.marks
