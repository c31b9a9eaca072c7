use Rattle.std.proofs.Common.{◌≡◌, ◌++◌, map, drop, take}
use Rattle.dh_tree.specs.Seen.{term_seen, terms}
use Rattle.dh_events.specs.Elements.{AreKnownSoFar, StaysRead}
use Rattle.dh_events.specs.Incidents.{terms_incidents}
use Rattle.dh_events.specs.Noted.{noted_incidents}
use Rattle.dh_events.specs.Tables.{table_at}
use Rattle.dh_events.proofs.noting.+reading.Given as goal

abbrev pub invariant-note_indices-loop-expr : goal.invariant-note_indices-loop-expr
invariant-note_indices-loop-expr l =
    (noted_incidents l.notes ++ terms_incidents l.site (terms (map term_seen (drop l.expr-index l.indices))) ≡ noted_incidents l.fn.notes ++ terms_incidents l.site (terms (map term_seen l.indices)))
    × (StaysRead l.fn.notes l.notes × AreKnownSoFar l.notes.structures (table_at l.fn.notes.clocks.items) (terms (map term_seen (take l.expr-index l.indices))) l.known)
