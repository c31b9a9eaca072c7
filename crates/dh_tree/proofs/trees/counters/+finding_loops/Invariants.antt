-- Those found so far, and those of the rest, are all; and where copies are few so far and in the rest, they are in all.
use Rattle.std.proofs.Common.{◌≡◌, ◌+◌, ◌++◌, map, drop}
use Rattle.dh_tree.specs.Seen.{action_seen, actions, part_seen, groups}
use Rattle.dh_tree.specs.Counters.{part_counters, groups_counters}
use Rattle.dh_tree.proofs.FewCopies.{PartsFew, PartFew}
use Rattle.dh_tree.proofs.trees.counters.+finding_loops.Given as goal

abbrev pub invariant-find_loops_in_parts-loop-part : goal.invariant-find_loops_in_parts-loop-part
invariant-find_loops_in_parts-loop-part l =
    (l.found.items ++ groups_counters (groups (map part_seen (drop l.part-index l.parts))) ≡ l.fn.found.items ++ groups_counters (groups (map part_seen l.parts)))
    × PartsFew l.round l.fn.few l.few l.parts l.part-index

abbrev pub invariant-find_loops_in_parts-loop-command : goal.invariant-find_loops_in_parts-loop-command
invariant-find_loops_in_parts-loop-command l =
    (l.found.items ++ part_counters (actions (map action_seen (drop l.command-index l.command-items))) ≡ l.initial.found.items ++ part_counters (actions (map action_seen l.command-items)))
    × PartFew l.round l.fn.few l.few l.command-items l.command-index l.parts (l.part-index + 1)
