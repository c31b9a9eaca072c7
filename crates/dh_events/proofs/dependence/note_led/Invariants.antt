use Rattle.std.proofs.Common.{◌≡◌, drop}
use Rattle.dh_events.specs.Scopes.{led_scopes, scope_at}
use Rattle.dh_events.proofs.dependence.note_led.Given as goal

abbrev pub invariant-loop-place : goal.invariant-loop-place
invariant-loop-place l = led_scopes (drop l.place l.ways) (scope_at l.scopes.items) ≡ led_scopes l.ways (scope_at l.fn.scopes.items)
