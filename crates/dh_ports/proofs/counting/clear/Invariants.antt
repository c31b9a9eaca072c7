use Rattle.dh_ports.proofs.GroupTurns.{Cleared}
use Rattle.dh_ports.proofs.counting.clear.Given as goal

abbrev pub invariant-loop-i : goal.invariant-loop-i
invariant-loop-i l = Cleared l.fn.counts l.counts l.i
