use Rattle.dh_viewing.proofs.Covered.{Counted}
use Rattle.dh_viewing.proofs.bank_sets.bank_count.Given as goal

-- what is left times the count so far is the whole
abbrev pub invariant-loop-i : goal.invariant-loop-i
invariant-loop-i l = Counted l.dims l.i l.count
