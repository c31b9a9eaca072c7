use Rattle.std.proofs.Common.{◌≡◌, ◌+◌}
use Rattle.dh_tree.specs.Indices.{index_context_of, actions_index_breaches, groups_index_breaches}
use Rattle.dh_tree.specs.Seen.{program_seen}
use Rattle.dh_tree.proofs.Leasts.{part_rest, parts_rest}
use Rattle.dh_views.proofs.walks.+commands.Given as goal

-- what is left leads to what all leads to
abbrev pub invariant-keep_groups-loop-part : goal.invariant-keep_groups-loop-part
invariant-keep_groups-loop-part l =
    parts_rest (groups_index_breaches (index_context_of (program_seen l.typed))) l.kept l.parts l.part-index ≡ parts_rest (groups_index_breaches (index_context_of (program_seen l.typed))) l.fn.kept l.parts 0

abbrev pub invariant-keep_groups-loop-command : goal.invariant-keep_groups-loop-command
invariant-keep_groups-loop-command l =
    part_rest (actions_index_breaches (index_context_of (program_seen l.typed))) (groups_index_breaches (index_context_of (program_seen l.typed))) l.kept l.command-items l.command-index l.parts (l.part-index + 1)
    ≡ parts_rest (groups_index_breaches (index_context_of (program_seen l.typed))) l.fn.kept l.parts 0
