use Rattle.std.proofs.Common.{◌≡◌, drop}
use Rattle.dh_events.specs.Scopes.{hidden_scopes, scope_at}
use Rattle.dh_events.proofs.dependence.note_hidden.Given as goal

abbrev pub invariant-loop-one : goal.invariant-loop-one
invariant-loop-one l = hidden_scopes (drop l.one-index l.hidden) (scope_at l.scopes.items) ≡ hidden_scopes l.hidden (scope_at l.fn.scopes.items)
