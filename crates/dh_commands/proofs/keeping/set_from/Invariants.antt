-- Whatever sets those to come, all are set.
use Rattle.dh_commands.proofs.KeptWords.{SetSoFar}
use Rattle.dh_commands.proofs.keeping.set_from.Given as goal

abbrev pub invariant-loop-i : goal.invariant-loop-i
invariant-loop-i l = SetSoFar l.scene l.lane l.first l.kept l.i l.fn.values l.values
