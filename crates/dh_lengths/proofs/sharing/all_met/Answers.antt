use Rattle.dh_lengths.proofs.MetTurns.{met_turn}
use Rattle.dh_lengths.proofs.sharing.all_met.Goals as goal

pub loop-event-preserved : goal.loop-event-preserved
loop-event-preserved c =
    met_turn c.loop-event.classes c.met_at.new.classes c.in_ok-met_at.ensures.extends c.args.events.now c.loop-event.event-index c.event-item.result c.loop-event.met.items c.push.new.self.items c.in_ok-met_at.field-0
    c.loop-event-test.true c.event-item.is c.loop-event.invariant c.in_ok-met_at.ensures.met c.in_ok-push.ensures.items
