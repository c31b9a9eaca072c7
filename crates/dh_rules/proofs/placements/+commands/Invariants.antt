use Rattle.std.proofs.Common.{◌≡◌, ◌+◌, ◌≤◌, min, max, map, drop, option_map}
use Rattle.dh_tree.specs.Indices.{index_context_of, actions_index_breaches, groups_index_breaches}
use Rattle.dh_tree.specs.PhaseKinds.{part_phase_kind, groups_phase_kind}
use Rattle.dh_tree.specs.Placements.{actions_placement_breaches, groups_placement_breaches}
use Rattle.dh_tree.specs.Seen.{action_seen, actions, part_seen, groups, program_seen}
use Rattle.dh_tree.proofs.Leasts.{part_rest, parts_rest}
use Rattle.dh_events.specs.Stages.{groups_stages, part_stages}
use Rattle.dh_events.specs.Tables.{kept_table}
use Rattle.dh_rules.specs.Walked.{context_seen}
use Rattle.dh_rules.proofs.placements.+commands.Given as goal

-- what is left leads to what all leads to; the phases so far with those of the rest are those of all
abbrev pub invariant-keep_groups-loop-part : goal.invariant-keep_groups-loop-part
invariant-keep_groups-loop-part l = record {
  shapes : parts_rest (groups_index_breaches (index_context_of (program_seen l.typed))) l.shapes l.parts l.part-index ≡ parts_rest (groups_index_breaches (index_context_of (program_seen l.typed))) l.fn.shapes l.parts 0;
  places :
      parts_rest (groups_placement_breaches l.typed.entities.items (context_seen l.context)) l.places l.parts l.part-index
      ≡ parts_rest (groups_placement_breaches l.typed.entities.items (context_seen l.context)) l.fn.places l.parts 0;
  small : l.all ≤ 2;
  noted : option_map (groups_stages (groups (map part_seen (drop l.part-index l.parts)))) (kept_table l.stages) ≡ option_map (groups_stages (groups (map part_seen l.parts))) (kept_table l.fn.stages);
  steps : min 2 (l.all + groups_phase_kind (groups (map part_seen (drop l.part-index l.parts)))) ≡ groups_phase_kind (groups (map part_seen l.parts));
}

abbrev pub invariant-keep_groups-loop-command : goal.invariant-keep_groups-loop-command
invariant-keep_groups-loop-command l = record {
  shapes :
      part_rest (actions_index_breaches (index_context_of (program_seen l.typed))) (groups_index_breaches (index_context_of (program_seen l.typed))) l.shapes l.command-items l.command-index l.parts (l.part-index + 1)
      ≡ parts_rest (groups_index_breaches (index_context_of (program_seen l.typed))) l.fn.shapes l.parts 0;
  places :
      part_rest (actions_placement_breaches l.typed.entities.items (context_seen l.context)) (groups_placement_breaches l.typed.entities.items (context_seen l.context)) l.places l.command-items l.command-index l.parts (l.part-index + 1)
      ≡ parts_rest (groups_placement_breaches l.typed.entities.items (context_seen l.context)) l.fn.places l.parts 0;
  noted : option_map (part_stages (actions (map action_seen (drop l.command-index l.command-items)))) (kept_table l.stages) ≡ option_map (part_stages (actions (map action_seen l.command-items))) (kept_table l.initial.stages);
  steps : max l.most (part_phase_kind (actions (map action_seen (drop l.command-index l.command-items)))) ≡ part_phase_kind (actions (map action_seen l.command-items));
}
