-- The width as far as these bits tell it.
use Rattle.dh_expressions.proofs.CounterWidths.{WidthSoFar}
use Rattle.dh_expressions.proofs.iterators.counter_width.Given as goal

abbrev pub invariant-loop-bits : goal.invariant-loop-bits
invariant-loop-bits l = WidthSoFar l.count l.bits l.width
