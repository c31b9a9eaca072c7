-- The iterator is set at the paths so far.
use Rattle.dh_sem.proofs.TurnsBegun.{TurnSoFar}
use Rattle.dh_sem.proofs.stepping.begin_turn.Given as goal

abbrev pub invariant-loop-i : goal.invariant-loop-i
invariant-loop-i l = TurnSoFar l.lanes l.turns l.turn l.fn.state l.i l.state
