use Rattle.std.proofs.Common.{◌≡◌, drop}
use Rattle.dh_shape.specs.Above.{first_excess_in}
use Rattle.dh_shape.proofs.limits.first_above.Given as goal

-- none so far
abbrev pub invariant-loop-entry : goal.invariant-loop-entry
invariant-loop-entry l = first_excess_in l.measure (drop l.entry-index l.entries) ≡ first_excess_in l.measure l.entries
