use Rattle.dh_viewing.proofs.Covered.{Covered}
use Rattle.dh_ports.proofs.carrying.covered.Given as goal

-- what is known behind the dimensions that were gone through
abbrev pub invariant-loop-i : goal.invariant-loop-i
invariant-loop-i l = Covered l.view l.parent l.fn.bank l.i l.inner l.rest l.own
