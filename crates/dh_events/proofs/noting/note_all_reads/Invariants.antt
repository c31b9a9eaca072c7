use Rattle.std.proofs.Common.{◌≡◌, ◌++◌, map, drop}
use Rattle.dh_tree.specs.Seen.{term_seen, terms}
use Rattle.dh_events.specs.Elements.{StaysRead}
use Rattle.dh_events.specs.Incidents.{terms_incidents}
use Rattle.dh_events.specs.Noted.{noted_incidents}
use Rattle.dh_events.proofs.noting.note_all_reads.Given as goal

abbrev pub invariant-loop-index : goal.invariant-loop-index
invariant-loop-index l =
    (noted_incidents l.notes ++ terms_incidents l.site (terms (map term_seen (drop l.index-index l.indices))) ≡ noted_incidents l.fn.notes ++ terms_incidents l.site (terms (map term_seen l.indices)))
    × StaysRead l.fn.notes l.notes
