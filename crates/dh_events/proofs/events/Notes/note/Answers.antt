use Rattle.dh_events.proofs.ReadFacts.{step_noted, touch_noted}
use Rattle.dh_events.proofs.events.Notes.note.Goals as goal

pub returns-clause-noted : goal.returns-clause-noted
returns-clause-noted c = step_noted c.args.self.now c.push.new.self c.args.event c.in_ok-push.ensures.items

pub returns-clause-touched : goal.returns-clause-touched
returns-clause-touched c = touch_noted c.args.self.now c.push.new.self c.args.event c.in_ok-push.ensures.items
