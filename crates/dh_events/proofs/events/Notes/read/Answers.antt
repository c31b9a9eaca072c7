use Rattle.dh_events.proofs.events.Notes.read.Goals as goal

pub returns-clause-noted : goal.returns-clause-noted
returns-clause-noted c = c.note.ensures.touched
