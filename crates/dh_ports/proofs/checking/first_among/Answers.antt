use Rattle.std.proofs.Common.{refl, ◌∙◌}
use Rattle.dh_tree.specs.Seen.{program_seen}
use Rattle.dh_runnable.proofs.ProgramsRun.{ready_few}
use Rattle.dh_ports.proofs.FirstTold.{few_copies, first_done}
use Rattle.dh_ports.proofs.SpentTold.{ways_follow}
use Rattle.dh_ports.proofs.checking.first_among.Goals as goal

pub walk-requires-clause-copies : goal.walk-requires-clause-copies
walk-requires-clause-copies c =
    let p = program_seen c.args.typed.now in
    let h = c.requires.told in
    few_copies p c.args.events.now c.in_ok-layout.layout h.copies (c.incidents_tell_sites.ensures.loops h.ready.of_text.first p h.ready.of_text.numbered) c.requires.seen c.in_ok-layout.ensures

pub walk-requires-clause-leads : goal.walk-requires-clause-leads
walk-requires-clause-leads c = ways_follow (program_seen c.args.typed.now) c.requires.told.ready.views c.requires.told.table

pub walk-requires-clause-begins : goal.walk-requires-clause-begins
walk-requires-clause-begins c = c.in_ok-sharing.ensures c.args.events.now refl

pub layout_of-requires : goal.layout_of-requires
layout_of-requires c = record { table = c.requires.told.table; leads = ways_follow (program_seen c.args.typed.now) c.requires.told.ready.views c.requires.told.table; few = ready_few (program_seen c.args.typed.now) c.requires.told.ready; rounds = c.requires.rounds; scopes = c.requires.scopes }

pub keep_behind-requires-clause-copies : goal.keep_behind-requires-clause-copies
keep_behind-requires-clause-copies c =
    let p = program_seen c.args.typed.now in
    let h = c.requires.told in
    few_copies p c.args.events.now c.in_ok-layout.layout h.copies (c.incidents_tell_sites.ensures.loops h.ready.of_text.first p h.ready.of_text.numbered) c.requires.seen c.in_ok-layout.ensures

pub keep_behind-requires-clause-leads : goal.keep_behind-requires-clause-leads
keep_behind-requires-clause-leads c = ways_follow (program_seen c.args.typed.now) c.requires.told.ready.views c.requires.told.table

pub keep_behind-requires-clause-within : goal.keep_behind-requires-clause-within
keep_behind-requires-clause-within c = c.in_ok-walked.ensures.within

pub keep_behind-requires-clause-ahead : goal.keep_behind-requires-clause-ahead
keep_behind-requires-clause-ahead c = c.in_ok-walked.ensures.ahead

pub returns : goal.returns
returns c = λ are.
    let p = program_seen c.args.typed.now in
    let h = c.requires.told in
    let events = c.args.events.now in
    let flags = c.walk.new.sharing.flags.items in
    let found = c.in_ok-walked.ensures in
    let phases = c.incidents_tell_sites.ensures.phases h.ready.of_text.first p h.ready.of_text.numbered in
    let loops = c.incidents_tell_sites.ensures.loops h.ready.of_text.first p h.ready.of_text.numbered in
    let told = c.shared_reads_are_found.ensures h.ready.of_text.first p events flags h.ready.of_text.numbered phases are (found.shared.found found.distinct) in
    first_done p events c.in_ok-layout.layout c.in_ok-layout.ensures flags (c.spent_ports_are_told.ensures p events flags h loops are found.shared.long told) (λ late. c.late_reads_are_told.ensures p events late h loops phases are)
    c.place_walked.result (c.place_walked.ensures ∙ found.spent) c.spent_at-kept.result c.keep_behind.new.kept c.spent_at-kept.ensures c.in_ok-keep_behind.ensures
