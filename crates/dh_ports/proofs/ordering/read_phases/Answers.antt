use Rattle.dh_ports.proofs.UnreadPhases.{read_done, read_first, read_turn}
use Rattle.dh_ports.proofs.ordering.read_phases.Goals as goal

pub loop-event-init : goal.loop-event-init
loop-event-init c = read_first c.args.events.now c.new-read.result.items

pub loop-event-preserved : goal.loop-event-preserved
loop-event-preserved c = read_turn c.args.events.now c.loop-event.event c.index-events-event.result c.loop-event.read.items c.mark_read.new.read.items c.loop-event-test.true c.index-events-event.is c.in_ok-mark_read.ensures c.loop-event.invariant

pub returns : goal.returns
returns c = read_done c.args.events.now c.loop-event.event c.loop-event.read.items c.loop-event-test.false c.loop-event.invariant
