-- What is left times the count so far is the whole.
use Rattle.dh_viewing.proofs.Covered.{Counted}
use Rattle.dh_unroll.proofs.viewing.bank_count.Given as goal

abbrev pub invariant-loop-i : goal.invariant-loop-i
invariant-loop-i l = Counted l.dims l.i l.count
