-- The banks so far are free.
use Rattle.std.proofs.Common.{◌≡◌, length, take}
use Rattle.dh_code.specs.Spent.{AreUsedBy}
use Rattle.dh_code.proofs.spending.release.Given as goal

abbrev pub invariant-loop-i : goal.invariant-loop-i
invariant-loop-i l = (length l.banks ≡ length l.fn.banks) × AreUsedBy 0 (take l.i l.banks)
