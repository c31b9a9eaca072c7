use Rattle.std.proofs.Common.{ap, sym, ◌∙◌, refl, ◌++◌}
use Rattle.std.specs.Prelude.{None}
use Rattle.std.proofs.lemmas.Result.{IfOk-weaker}
use Rattle.dh_events.specs.Incidents.{closed, incidents}
use Rattle.dh_events.specs.Noted.{all_seen}
use Rattle.dh_events.specs.Stages.{stages_in}
use Rattle.dh_events.specs.Tables.{table_at}
use Rattle.dh_ports.proofs.FirstTold.{are_events, events_seen}
use Rattle.dh_ports.proofs.SitesTold.{tells_phases}
use Rattle.dh_lengths.proofs.SharedTold.{shared_told}
use Rattle.dh_lengths.proofs.sharing.shared_reads.Goals as goal

pub returns : goal.returns
returns c = IfOk-weaker c.find_shares.result _ _ (λ shares finds p first same numbered_from.
    let events = c.as_slice-2.result.now in
    let seen = events_seen p p refl c.new-stages.result.items c.note_stages.new.stages.items c.as_slice.result.now c.in_ok-notes.notes.events.items c.note_body.new.notes.events.items events
    c.new-stages.ensures.items (c.in_ok-note_stages.ensures.noted ∙ ap (λ a. stages_in a (table_at c.new-stages.result.items)) (sym same)) c.as_slice.ensures.value c.in_ok-notes.ensures.empty
    (c.in_ok-note_body.ensures.adds ∙ ap (λ a. all_seen c.in_ok-notes.notes.events.items ++ incidents (table_at c.as_slice.result.now) None closed a) (sym same)) c.as_slice-2.ensures.value in
    let are = are_events p c.note_body.new.notes events c.as_slice-2.ensures.value seen c.drop-2.inside.known.keys c.drop-2.view_is c.drop-2.invariant (c.in_ok-note_body.ensures.noted.noted c.in_ok-notes.ensures.noted) in
    shared_told first p events shares.items numbered_from (tells_phases first p numbered_from) are finds) c.find_shares.ensures
