use Rattle.dh_viewing.proofs.Covered.{Covered}
use Rattle.dh_viewing.proofs.bank_sets.covering_bank.Given as goal

-- what is known behind the dimensions that were gone through
abbrev pub invariant-loop-i : goal.invariant-loop-i
invariant-loop-i l = Covered l.view l.parent l.fn.parent_bank l.i l.inner l.rest l.bank
