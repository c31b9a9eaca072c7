use Rattle.std.proofs.Common.{[], refl}
use Rattle.dh_events.proofs.ScopeFacts.{are_scopes}
use Rattle.dh_events.proofs.dependence.note_ways.Goals as goal

pub returns : goal.returns
returns c = λ body noted. are_scopes body c.args.ways.now c.args.hidden.now [] c.args.scopes.now.items c.note_led.new.scopes.items c.note_hidden.new.scopes.items refl noted c.in_ok-note_led.ensures c.in_ok-note_hidden.ensures
