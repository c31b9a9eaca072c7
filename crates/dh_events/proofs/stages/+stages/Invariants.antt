use Rattle.std.proofs.Common.{◌≡◌, ◌+◌, ◌≤◌, min, max, map, drop}
use Rattle.dh_tree.specs.Seen.{action_seen, part_seen, groups, actions}
use Rattle.dh_events.specs.Stages.{groups_stages, part_stages}
use Rattle.dh_tree.specs.PhaseKinds.{groups_phase_kind, part_phase_kind}
use Rattle.dh_events.specs.Tables.{table_at}
use Rattle.dh_events.proofs.stages.+stages.Given as goal

abbrev pub invariant-note_block-loop-part : goal.invariant-note_block-loop-part
invariant-note_block-loop-part l =
    (l.all ≤ 2)
    × ((min 2 (l.all + groups_phase_kind (groups (map part_seen (drop l.part-index l.body)))) ≡ groups_phase_kind (groups (map part_seen l.body)))
    × (groups_stages (groups (map part_seen (drop l.part-index l.body))) (table_at l.stages.items) ≡ groups_stages (groups (map part_seen l.body)) (table_at l.fn.stages.items)))

abbrev pub invariant-note_block-loop-command : goal.invariant-note_block-loop-command
invariant-note_block-loop-command l =
    (max l.most (part_phase_kind (actions (map action_seen (drop l.command-index l.command-items)))) ≡ part_phase_kind (actions (map action_seen l.command-items)))
    × (part_stages (actions (map action_seen (drop l.command-index l.command-items))) (table_at l.stages.items) ≡ part_stages (actions (map action_seen l.command-items)) (table_at l.initial.stages.items))
