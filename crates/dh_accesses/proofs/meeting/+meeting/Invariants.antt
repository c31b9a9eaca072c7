-- what is made of the parts so far, and of the commands of a part, stands for the whole with what is left
use Rattle.std.proofs.Common.{◌+◌, drop, map}
use Rattle.dh_tree.specs.Seen.{action_seen, actions, all_parts_seen}
use Rattle.dh_accesses.proofs.MetParts.{GroupsMet, PartMet}
use Rattle.dh_accesses.proofs.meeting.+meeting.Given as goal

abbrev pub invariant-meet_parts-loop-part : goal.invariant-meet_parts-loop-part
invariant-meet_parts-loop-part l = GroupsMet l.unrolled l.first (all_parts_seen l.parts) l.all_groups.items l.next (all_parts_seen (drop l.part-index l.parts))

abbrev pub invariant-meet_parts-loop-command : goal.invariant-meet_parts-loop-command
invariant-meet_parts-loop-command l =
    PartMet l.unrolled l.first (all_parts_seen l.parts) l.all_groups.items l.group.items l.next (actions (map action_seen (drop l.command-index l.command-items))) (all_parts_seen (drop (l.part-index + 1) l.parts))
