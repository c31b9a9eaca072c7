use Rattle.std.proofs.Common.{◌≡◌, ◌++◌, map, drop}
use Rattle.dh_tree.specs.Seen.{action_seen, actions, groups, part_seen}
use Rattle.dh_meaning.specs.AccessNumbers.{groups_accesses, part_accesses}
use Rattle.dh_lengths.specs.HeldLevels.{zero_levels}
use Rattle.dh_lengths.proofs.skipping.+skip_command.Given as goal

abbrev pub invariant-skip_command-loop-part : goal.invariant-skip_command-loop-part
invariant-skip_command-loop-part l =
    l.reads.items ++ zero_levels (groups_accesses (groups (map part_seen (drop l.part-index l.part-items)))) ≡ l.fn.reads.items ++ zero_levels (groups_accesses (groups (map part_seen l.part-items)))

abbrev pub invariant-skip_command-loop-command : goal.invariant-skip_command-loop-command
invariant-skip_command-loop-command l =
    l.reads.items ++ zero_levels (part_accesses (actions (map action_seen (drop l.command-index l.command-items)))) ≡ l.initial.reads.items ++ zero_levels (part_accesses (actions (map action_seen l.command-items)))
