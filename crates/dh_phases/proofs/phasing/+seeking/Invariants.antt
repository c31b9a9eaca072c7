-- What is found in the rest is what is found in all.
use Rattle.std.proofs.Common.{◌≡◌, map, drop}
use Rattle.dh_tree.specs.Seen.{action_seen, actions, part_seen, groups}
use Rattle.dh_phases.specs.FoundCommands.{first_in_part, first_in_groups}
use Rattle.dh_phases.proofs.phasing.+seeking.Given as goal

abbrev pub invariant-find_in_parts-loop-part : goal.invariant-find_in_parts-loop-part
invariant-find_in_parts-loop-part l = first_in_groups l.number (groups (map part_seen (drop l.part-index l.parts))) ≡ first_in_groups l.number (groups (map part_seen l.parts))

abbrev pub invariant-find_in_parts-loop-command : goal.invariant-find_in_parts-loop-command
invariant-find_in_parts-loop-command l = first_in_part l.number (actions (map action_seen (drop l.command-index l.command-items))) ≡ first_in_part l.number (actions (map action_seen l.command-items))
