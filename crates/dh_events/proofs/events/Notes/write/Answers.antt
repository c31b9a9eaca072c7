use Rattle.std.proofs.lemmas.Result.{on_ok_weaker}
use Rattle.dh_events.proofs.events.Notes.write.Goals as goal

pub returns-clause-noted : goal.returns-clause-noted
returns-clause-noted c = on_ok_weaker c.note.result (λ f. f tt) c.note.ensures.touched
