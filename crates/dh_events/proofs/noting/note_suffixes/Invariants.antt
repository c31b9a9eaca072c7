use Rattle.std.proofs.Common.{◌≡◌, ◌++◌, drop}
use Rattle.dh_events.specs.Elements.{StaysRead}
use Rattle.dh_events.specs.Noted.{noted_incidents, suffixes_read_by}
use Rattle.dh_events.proofs.noting.note_suffixes.Given as goal

abbrev pub invariant-loop-pair : goal.invariant-loop-pair
invariant-loop-pair l =
    (noted_incidents l.notes ++ suffixes_read_by l.site (drop l.pair-index l.by) ≡ noted_incidents l.fn.notes ++ suffixes_read_by l.site l.by)
    × StaysRead l.fn.notes l.notes
