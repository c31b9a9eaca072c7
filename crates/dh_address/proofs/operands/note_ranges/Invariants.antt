-- The ranges so far, and those of the rest.
use Rattle.std.specs.Prelude.{◌≡◌, ◌++◌, drop}
use Rattle.dh_address.specs.WaysMade.{ranges_by}
use Rattle.dh_address.proofs.operands.note_ranges.Given as goal

abbrev pub invariant-loop-i : goal.invariant-loop-i
invariant-loop-i l = l.ranges ++ ranges_by (drop l.i l.dims) (drop l.i l.indices) ≡ l.fn.ranges ++ ranges_by l.dims l.indices
