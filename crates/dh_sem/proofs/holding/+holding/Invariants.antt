-- The phases from one on are held.
use Rattle.dh_sem.proofs.ListsHeld.{HoldsFrom}
use Rattle.dh_sem.proofs.holding.+holding.Given as goal

abbrev pub invariant-hold-loop-i : goal.invariant-hold-loop-i
invariant-hold-loop-i l = HoldsFrom l.names l.paths l.fn.made l.made l.phases l.i l.next
