use Rattle.std.proofs.Common.{◌≡◌, length}
use Rattle.dh_events.specs.Scopes.{scope_at}
use Rattle.dh_events.proofs.dependence.grow.Given as goal

abbrev pub invariant-loop : goal.invariant-loop
invariant-loop l = (length l.scopes.items ≡ l.counter) × (scope_at l.scopes.items ≡ scope_at l.fn.scopes.items)
