use Rattle.std.proofs.Common.{ap, sym, ◌∙◌}
use Rattle.std.specs.Prelude.{Some}
use Rattle.std.proofs.lemmas.Option.{slice_get-get_or}
use Rattle.dh_ports.specs.Orders as orders
use Rattle.dh_ports.proofs.QuietPhases.{quiet_past}
use Rattle.dh_ports.proofs.ordering.is_quiet_at.Goals as goal

pub returns-then-event-events : goal.returns-then-event-events
returns-then-event-events c = c.is_quiet.ensures ∙ ap (orders.is_quiet_at c.args.marked.now) (ap (λ e. Some e) c.index-events-event.is ∙ sym (slice_get-get_or c.args.events.now c.args.event c.index-events-event.result c.if-event-events.true))

pub returns-else-event-events : goal.returns-else-event-events
returns-else-event-events c = quiet_past c.args.marked.now c.args.events.now c.args.event c.if-event-events.false
