-- Whatever the variables to come show and make, all do.
use Rattle.dh_expressions.proofs.WaysShown.{Offsets}
use Rattle.dh_expressions.proofs.variables.push_offsets.Given as goal

abbrev pub invariant-loop-one : goal.invariant-loop-one
invariant-loop-one l = Offsets l.scene l.lane l.current l.fn.draft l.hidden l.one-index l.draft l.values
