use Rattle.std.proofs.Common.{◌≡◌, ◌++◌, map, drop}
use Rattle.dh_tree.specs.Seen.{action_seen, part_seen, groups, actions}
use Rattle.dh_events.specs.Elements.{StaysNoted}
use Rattle.dh_events.specs.Incidents.{groups_incidents, groups_open, part_incidents, part_open}
use Rattle.dh_events.specs.Noted.{noted_incidents, stages_known}
use Rattle.dh_events.proofs.noting.+noting.Given as goal

abbrev pub invariant-note_parts-loop-part : goal.invariant-note_parts-loop-part
invariant-note_parts-loop-part l =
    (noted_incidents l.notes ++ groups_incidents (stages_known l.around) l.around.round l.stepped l.parted l.behind (groups (map part_seen (drop l.part-index l.parts))) ≡ noted_incidents l.fn.notes ++ groups_incidents (stages_known l.around) l.around.round l.stepped l.parted l.fn.behind (groups (map part_seen l.parts)))
    × ((groups_open (stages_known l.around) l.stepped l.behind (groups (map part_seen (drop l.part-index l.parts))) ≡ groups_open (stages_known l.around) l.stepped l.fn.behind (groups (map part_seen l.parts)))
    × StaysNoted l.fn.notes l.notes)

abbrev pub invariant-note_parts-loop-command : goal.invariant-note_parts-loop-command
invariant-note_parts-loop-command l =
    (noted_incidents l.notes ++ part_incidents (stages_known l.around) l.around.round l.behind (actions (map action_seen (drop l.command-index l.command-items))) ≡ noted_incidents l.initial.notes ++ part_incidents (stages_known l.around) l.around.round l.initial.behind (actions (map action_seen l.command-items)))
    × ((part_open (stages_known l.around) l.behind (actions (map action_seen (drop l.command-index l.command-items))) ≡ part_open (stages_known l.around) l.initial.behind (actions (map action_seen l.command-items)))
    × StaysNoted l.initial.notes l.notes)
