use Rattle.std.proofs.Common.{[], refl, ap, sym, ◌∙◌}
use Rattle.std.proofs.lemmas.Result.{IfOk-weaker}
use Rattle.dh_tree.specs.PlainTrees.{Program}
use Rattle.dh_tree.specs.Seen.{program_seen}
use Rattle.dh_events.specs.Stages.{stages_in}
use Rattle.dh_events.specs.Tables.{table_at}
use Rattle.dh_ports.proofs.FirstTold.{are_events, events_seen}
use Rattle.dh_ports.proofs.checking.first_breach.Goals as goal

pub first_among-requires-clause-seen : goal.first_among-requires-clause-seen
first_among-requires-clause-seen c =
    let same = ap program_seen c.tree.ensures.tree in
    events_seen (program_seen c.args.typed.now) (program_seen c.tree.result.now) same [] c.args.nests.stages.items c.as_slice.result.now c.in_ok-notes.notes.events.items c.note_body.new.notes.events.items c.as_slice-2.result.now
    refl (c.requires.stages ∙ ap (λ (p : Program). stages_in p.body (table_at [])) (sym same)) c.as_slice.ensures.value c.in_ok-notes.ensures.empty c.in_ok-note_body.ensures.adds c.as_slice-2.ensures.value

pub returns : goal.returns
returns c =
    let p = program_seen c.args.typed.now in
    let same = ap program_seen c.tree.ensures.tree in
    let events = c.as_slice-2.result.now in
    let seen = events_seen p (program_seen c.tree.result.now) same [] c.args.nests.stages.items c.as_slice.result.now c.in_ok-notes.notes.events.items c.note_body.new.notes.events.items events
    refl (c.requires.stages ∙ ap (λ (p : Program). stages_in p.body (table_at [])) (sym same)) c.as_slice.ensures.value c.in_ok-notes.ensures.empty c.in_ok-note_body.ensures.adds c.as_slice-2.ensures.value in
    let are = are_events p c.note_body.new.notes events c.as_slice-2.ensures.value seen c.drop-2.inside.known.keys c.drop-2.view_is c.drop-2.invariant (c.in_ok-note_body.ensures.noted.noted c.in_ok-notes.ensures.noted) in
    IfOk-weaker c.first_among.result _ _ (λ first told. told are) c.first_among.ensures
