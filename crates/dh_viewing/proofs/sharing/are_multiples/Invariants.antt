-- Where the rest are the same, all are.
use Rattle.std.proofs.Common.{◌≡◌, drop}
use Rattle.dh_viewing.specs.Finding.{factors_paired}
use Rattle.dh_viewing.proofs.sharing.are_multiples.Given as goal

abbrev pub invariant-loop-i : goal.invariant-loop-i
invariant-loop-i l = drop l.i l.numbers ≡ drop l.i (factors_paired l.by) → l.numbers ≡ factors_paired l.by
