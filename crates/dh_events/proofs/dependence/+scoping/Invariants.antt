use Rattle.std.proofs.Common.{◌≡◌, map, drop}
use Rattle.dh_tree.specs.Seen.{action_seen, part_seen, groups, actions}
use Rattle.dh_events.specs.Scopes.{groups_scopes, part_scopes, scope_at}
use Rattle.dh_events.proofs.dependence.+scoping.Given as goal

abbrev pub invariant-note_parts-loop-part : goal.invariant-note_parts-loop-part
invariant-note_parts-loop-part l =
    groups_scopes l.depth (groups (map part_seen (drop l.part-index l.parts))) (scope_at l.scopes.items) ≡ groups_scopes l.depth (groups (map part_seen l.parts)) (scope_at l.fn.scopes.items)

abbrev pub invariant-note_parts-loop-command : goal.invariant-note_parts-loop-command
invariant-note_parts-loop-command l =
    part_scopes l.depth (actions (map action_seen (drop l.command-index l.command-items))) (scope_at l.scopes.items) ≡ part_scopes l.depth (actions (map action_seen l.command-items)) (scope_at l.initial.scopes.items)
