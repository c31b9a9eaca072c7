-- So many registers have nothing.
use Rattle.std.proofs.Common.{◌≡◌}
use Rattle.std.specs.Prelude.{None, replicate}
use Rattle.dh_commands.proofs.assignments.no_values.Given as goal

abbrev pub invariant-loop : goal.invariant-loop
invariant-loop l = (l.current.items ≡ replicate l.counter None) × (l.marks.items ≡ replicate l.counter 0)
