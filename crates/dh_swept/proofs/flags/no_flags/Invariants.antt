use Rattle.std.proofs.Common.{◌≡◌, false, replicate}
use Rattle.dh_swept.proofs.flags.no_flags.Given as goal

abbrev pub invariant-loop-i : goal.invariant-loop-i
invariant-loop-i l = l.flags.items ≡ replicate l.i false
