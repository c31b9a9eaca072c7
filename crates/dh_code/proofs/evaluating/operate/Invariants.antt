use Rattle.dh_code.proofs.Operating.{Operates}
use Rattle.dh_code.proofs.evaluating.operate.Given as goal

abbrev pub invariant-loop-i : goal.invariant-loop-i
invariant-loop-i l = Operates l.scene l.slots l.ranks l.at l.operations l.fn.given l.fn.banks l.i l.given l.banks
