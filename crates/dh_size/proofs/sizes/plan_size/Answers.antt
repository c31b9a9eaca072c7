use Rattle.std.proofs.Common.{List, [], refl, ap, sym, ◌∙◌, subst}
use Rattle.std.specs.Prelude.{Option}
use Rattle.dh_tree.specs.Memories.{memories_of}
use Rattle.dh_tree.specs.Seen.{program_seen}
use Rattle.dh_meaning.specs.Ways.{ways_of}
use Rattle.dh_tree.specs.PlainTrees.{Program}
use Rattle.dh_events.specs.Accesses.{loops_listed}
use Rattle.dh_events.specs.Noted.{all_seen}
use Rattle.dh_events.specs.Rounds.{rounds_of}
use Rattle.dh_events.specs.Stages.{stages_in}
use Rattle.dh_events.specs.Tables.{table_at}
use Rattle.dh_lengths.specs.SharedReads.{TellsShares}
use Rattle.dh_runnable.proofs.ProgramsRun.{ready_few}
use Rattle.dh_ports.specs.declared.carrying.Carrier.{Carrier}
use Rattle.dh_ports.specs.Carriers.{AreEach}
use Rattle.dh_ports.proofs.FirstTold.{are_events, events_seen}
use Rattle.dh_ports.proofs.SitesTold.{tells_phases}
use Rattle.dh_lengths.proofs.SharedTold.{shared_told}
use Rattle.dh_ports.proofs.LayoutFacts.{follow_all}
use Rattle.dh_ports.proofs.SpentTold.{leads_at, ways_follow}
use Rattle.dh_size.specs.Sizes.{sizes_from}
use Rattle.dh_size.specs.Summed.{capped_sum, unit_size}
use Rattle.dh_size.proofs.EventSizes.{events_few, events_sized, size_done}
use Rattle.dh_size.proofs.sizes.plan_size.Goals as goal

pub access_sizes-requires-clause-table : goal.access_sizes-requires-clause-table
access_sizes-requires-clause-table c =
    let h = c.requires.ready in
    c.kept_programs_have_tables.ensures (program_seen c.args.program.now) 1048577 h.of_text h.names h.built h.indices h.limits h.placements

pub ways_in-requires : goal.ways_in-requires
ways_in-requires c = record { few = ready_few (program_seen c.args.program.now) c.requires.ready }

pub carriers_of-requires : goal.carriers_of-requires
carriers_of-requires c =
    let h = c.requires.ready in
    let p = program_seen c.args.program.now in
    let table = c.kept_programs_have_tables.ensures p 1048577 h.of_text h.names h.built h.indices h.limits h.placements in
    follow_all (memories_of p) c.in_ok-ways.ways (ways_of p) c.in_ok-ways.ensures (ways_follow p h.views table)

pub access_sizes-requires-clause-views : goal.access_sizes-requires-clause-views
access_sizes-requires-clause-views c =
    let h = c.requires.ready in
    let p = program_seen c.args.program.now in
    let table = c.kept_programs_have_tables.ensures p 1048577 h.of_text h.names h.built h.indices h.limits h.placements in
    record { ways = c.in_ok-ways.ensures; carriers = subst (λ (cs : List Carrier). AreEach c.in_ok-ways.ways cs) (sym c.as_slice-each.ensures.value) c.in_ok-carriers.ensures; leads = ways_follow p h.views table }

pub access_sizes-requires-clause-few : goal.access_sizes-requires-clause-few
access_sizes-requires-clause-few c =
    let h = c.requires.ready in
    let p = program_seen c.args.program.now in
    let same = ap program_seen c.tree.ensures.tree in
    let noted = ap rounds_of c.as_slice-2.ensures.value ∙ c.in_ok-nests.ensures.rounds in
    let seen = events_seen p (program_seen c.tree.result.now) same [] c.in_ok-nests.nests.stages.items c.as_slice.result.now c.in_ok-notes.notes.events.items c.note_body.new.notes.events.items c.as_slice-events.result.now
    refl (c.in_ok-nests.ensures.stages ∙ ap (λ (q : Program). stages_in q.body (table_at [])) (sym same)) c.as_slice.ensures.value c.in_ok-notes.ensures.empty c.in_ok-note_body.ensures.adds c.as_slice-events.ensures.value in
    events_few p h.of_text.first h.of_text.numbered c.as_slice-2.result.now noted c.as_slice-events.result.now seen (c.ready_accesses_are_told.ensures.copies p h.indices h.limits)

pub returns-clause-shares : goal.returns-clause-shares
returns-clause-shares c =
    let h = c.requires.ready in
    let p = program_seen c.args.program.now in
    let same = ap program_seen c.tree.ensures.tree in
    let seen = events_seen p (program_seen c.tree.result.now) same [] c.in_ok-nests.nests.stages.items c.as_slice.result.now c.in_ok-notes.notes.events.items c.note_body.new.notes.events.items c.as_slice-events.result.now
    refl (c.in_ok-nests.ensures.stages ∙ ap (λ (q : Program). stages_in q.body (table_at [])) (sym same)) c.as_slice.ensures.value c.in_ok-notes.ensures.empty c.in_ok-note_body.ensures.adds c.as_slice-events.ensures.value in
    let events = c.as_slice-events.result.now in
    let are = are_events p c.note_body.new.notes events c.as_slice-events.ensures.value seen c.drop-2.inside.known.keys c.drop-2.view_is c.drop-2.invariant (c.in_ok-note_body.ensures.noted.noted c.in_ok-notes.ensures.noted) in
    let shares : TellsShares p c.in_ok-shares.shares.items = shared_told h.of_text.first p events c.in_ok-shares.shares.items h.of_text.numbered (tells_phases h.of_text.first p h.of_text.numbered) are c.in_ok-shares.ensures in
    shares

pub returns-clause-size : goal.returns-clause-size
returns-clause-size c =
    let h = c.requires.ready in
    let p = program_seen c.args.program.now in
    let same = ap program_seen c.tree.ensures.tree in
    let seen = events_seen p (program_seen c.tree.result.now) same [] c.in_ok-nests.nests.stages.items c.as_slice.result.now c.in_ok-notes.notes.events.items c.note_body.new.notes.events.items c.as_slice-events.result.now
    refl (c.in_ok-nests.ensures.stages ∙ ap (λ (q : Program). stages_in q.body (table_at [])) (sym same)) c.as_slice.ensures.value c.in_ok-notes.ensures.empty c.in_ok-note_body.ensures.adds c.as_slice-events.ensures.value in
    let events = c.as_slice-events.result.now in
    let are = are_events p c.note_body.new.notes events c.as_slice-events.ensures.value seen c.drop-2.inside.known.keys c.drop-2.view_is c.drop-2.invariant (c.in_ok-note_body.ensures.noted.noted c.in_ok-notes.ensures.noted) in
    let shares : TellsShares p c.in_ok-shares.shares.items = shared_told h.of_text.first p events c.in_ok-shares.shares.items h.of_text.numbered (tells_phases h.of_text.first p h.of_text.numbered) are c.in_ok-shares.ensures in
    let body = ap (λ (q : Program). q.body) (sym same) in
    let noted = ap rounds_of c.as_slice-2.ensures.value ∙ c.in_ok-nests.ensures.rounds in
    let table = c.kept_programs_have_tables.ensures p 1048577 h.of_text h.names h.built h.indices h.limits h.placements in
    let listed : TellsShares p c.as_slice-3.result.now = subst (λ (ss : List (Option _)). TellsShares p ss) (sym c.as_slice-3.ensures.value) shares in
    size_done p (sizes_from p (loops_listed c.as_slice-2.result.now) c.as_slice-3.result.now 0 (all_seen c.as_slice-events.result.now)) c.in_ok-accesses.accesses c.with_command.result c.min-size.result c.in_ok-accesses.ensures
    (events_sized p h.of_text.first h.of_text.numbered c.as_slice-2.result.now noted c.as_slice-events.result.now seen c.as_slice-3.result.now (λ k a e w u. leads_at p h.views table k a e w u) listed)
    (c.with_command.ensures ∙ ap (λ a. capped_sum c.in_ok-accesses.accesses (unit_size a)) (sym body)) c.min-size.ensures
