use Rattle.std.proofs.Common.{◌≡◌, ◌+◌, ◌≤◌, min, max, map, drop}
use Rattle.dh_tree.specs.Seen.{action_seen, part_seen, groups, actions}
use Rattle.dh_events.specs.Rounds.{groups_rounds, part_rounds, rounds_of}
use Rattle.dh_events.specs.Scopes.{groups_scopes, part_scopes, scope_at}
use Rattle.dh_events.specs.Stages.{groups_stages, part_stages}
use Rattle.dh_tree.specs.PhaseKinds.{groups_phase_kind, part_phase_kind}
use Rattle.dh_events.specs.Tables.{table_at}
use Rattle.dh_events.proofs.nests.+nesting.Given as goal

-- what is left leads to what all leads to; the phases so far with those of the rest are those of all
abbrev pub invariant-note_parts-loop-part : goal.invariant-note_parts-loop-part
invariant-note_parts-loop-part l = record {
  few : l.all ≤ 2;
  own : min 2 (l.all + groups_phase_kind (groups (map part_seen (drop l.part-index l.parts)))) ≡ groups_phase_kind (groups (map part_seen l.parts));
  stages : groups_stages (groups (map part_seen (drop l.part-index l.parts))) (table_at l.nests.stages.items) ≡ groups_stages (groups (map part_seen l.parts)) (table_at l.fn.nests.stages.items);
  rounds : groups_rounds l.outer (groups (map part_seen (drop l.part-index l.parts))) (rounds_of l.nests.rounds.items) ≡ groups_rounds l.outer (groups (map part_seen l.parts)) (rounds_of l.fn.nests.rounds.items);
  scopes : groups_scopes l.depth (groups (map part_seen (drop l.part-index l.parts))) (scope_at l.nests.scopes.items) ≡ groups_scopes l.depth (groups (map part_seen l.parts)) (scope_at l.fn.nests.scopes.items);
}

abbrev pub invariant-note_parts-loop-command : goal.invariant-note_parts-loop-command
invariant-note_parts-loop-command l = record {
  own : max l.most (part_phase_kind (actions (map action_seen (drop l.command-index l.command-items)))) ≡ part_phase_kind (actions (map action_seen l.command-items));
  stages : part_stages (actions (map action_seen (drop l.command-index l.command-items))) (table_at l.nests.stages.items) ≡ part_stages (actions (map action_seen l.command-items)) (table_at l.initial.nests.stages.items);
  rounds : part_rounds l.outer (actions (map action_seen (drop l.command-index l.command-items))) (rounds_of l.nests.rounds.items) ≡ part_rounds l.outer (actions (map action_seen l.command-items)) (rounds_of l.initial.nests.rounds.items);
  scopes : part_scopes l.depth (actions (map action_seen (drop l.command-index l.command-items))) (scope_at l.nests.scopes.items) ≡ part_scopes l.depth (actions (map action_seen l.command-items)) (scope_at l.initial.nests.scopes.items);
}
