-- None of the accesses so far has operations.
use Rattle.std.proofs.Common.{◌≡◌, None}
use Rattle.std.specs.Prelude.{replicate}
use Rattle.dh_expressions.proofs.accesses.untouched.Given as goal

abbrev pub invariant-loop : goal.invariant-loop
invariant-loop l = l.touched.items ≡ replicate l.counter None
