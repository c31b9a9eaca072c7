-- Whatever the rest of the ranges add from here, all add from the start.
use Rattle.std.specs.Prelude.{List, drop}
use Rattle.dh_plan.specs.declared.operations.Operation.{Operation}
use Rattle.dh_address.specs.Pieces.{AreChecked}
use Rattle.dh_address.proofs.ranging.check_ranges.Given as goal

abbrev pub invariant-loop-range : goal.invariant-loop-range
invariant-loop-range l =
    (new : List Operation) → AreChecked l.guard l.fault (drop l.range-index l.ranges) l.list new → AreChecked l.guard l.fault l.ranges l.fn.list new
