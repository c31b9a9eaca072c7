-- Whatever the rest of the ranges add from here, all add from the start.
use Rattle.std.specs.Prelude.{ℕ, Option, List, drop}
use Rattle.dh_plan.specs.declared.operations.Operation.{Operation}
use Rattle.dh_address.specs.Pieces.{IsGuarded}
use Rattle.dh_address.proofs.ranging.guard_ranges.Given as goal

abbrev pub invariant-loop-range : goal.invariant-loop-range
invariant-loop-range l =
    (new : List Operation) (last : Option ℕ) → IsGuarded l.on (drop l.range-index l.ranges) l.list new last → IsGuarded l.fn.guard l.ranges l.fn.list new last
