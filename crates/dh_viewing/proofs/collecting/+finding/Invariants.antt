-- Those found so far, and those of the rest, are all.
use Rattle.std.proofs.Common.{◌≡◌, ◌++◌, map, drop}
use Rattle.dh_tree.specs.Seen.{action_seen, actions, part_seen, groups}
use Rattle.dh_tree.specs.Views.{part_viewings, groups_viewings}
use Rattle.dh_viewing.specs.Finding.{viewings_found}
use Rattle.dh_viewing.proofs.collecting.+finding.Given as goal

abbrev pub invariant-find_in_parts-loop-part : goal.invariant-find_in_parts-loop-part
invariant-find_in_parts-loop-part l =
    viewings_found l.found.items ++ groups_viewings (groups (map part_seen (drop l.part-index l.parts))) ≡ viewings_found l.fn.found.items ++ groups_viewings (groups (map part_seen l.parts))

abbrev pub invariant-find_in_parts-loop-command : goal.invariant-find_in_parts-loop-command
invariant-find_in_parts-loop-command l =
    viewings_found l.found.items ++ part_viewings (actions (map action_seen (drop l.command-index l.command-items))) ≡ viewings_found l.initial.found.items ++ part_viewings (actions (map action_seen l.command-items))
