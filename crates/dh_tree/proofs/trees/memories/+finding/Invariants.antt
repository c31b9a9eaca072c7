-- Those found so far, and those of the rest, are all.
use Rattle.std.proofs.Common.{◌≡◌, ◌++◌, map, drop}
use Rattle.dh_tree.specs.Seen.{action_seen, actions, part_seen, groups}
use Rattle.dh_tree.specs.Memories.{part_locals, groups_locals}
use Rattle.dh_tree.specs.Collected.{found_memories}
use Rattle.dh_tree.proofs.trees.memories.+finding.Given as goal

abbrev pub invariant-find_in_parts-loop-part : goal.invariant-find_in_parts-loop-part
invariant-find_in_parts-loop-part l =
    found_memories l.found.items ++ groups_locals (groups (map part_seen (drop l.part-index l.parts))) ≡ found_memories l.fn.found.items ++ groups_locals (groups (map part_seen l.parts))

abbrev pub invariant-find_in_parts-loop-command : goal.invariant-find_in_parts-loop-command
invariant-find_in_parts-loop-command l =
    found_memories l.found.items ++ part_locals (actions (map action_seen (drop l.command-index l.command-items))) ≡ found_memories l.initial.found.items ++ part_locals (actions (map action_seen l.command-items))
