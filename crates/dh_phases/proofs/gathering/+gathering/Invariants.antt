-- What is done, and what the rest gives behind it, is all; and the number behind what is left is that behind all.
use Rattle.std.proofs.Common.{◌≡◌, ◌+◌, [], ◌++◌, drop}
use Rattle.dh_meaning.specs.AccessNumbers.{groups_accesses}
use Rattle.dh_tree.specs.Seen.{all_parts_seen}
use Rattle.dh_phases.specs.GatheredPhases.{phases_seen}
use Rattle.dh_phases.specs.Gathering.{command_list, phases_in_groups}
use Rattle.dh_phases.proofs.CountedParts.{Left}
use Rattle.dh_phases.proofs.PhasesRead.{all_from, commands_make}
use Rattle.dh_phases.proofs.gathering.+gathering.Given as goal

-- between parts no command stands open
abbrev pub invariant-phases_of_parts-loop-part : goal.invariant-phases_of_parts-loop-part
invariant-phases_of_parts-loop-part l =
    (l.current.items ≡ [])
    × (Left l.next (groups_accesses (all_parts_seen (drop l.part-index l.parts))) l.first (groups_accesses (all_parts_seen l.parts))
    × (phases_seen l.done.items ++ phases_in_groups l.next (all_parts_seen (drop l.part-index l.parts)) ≡ phases_in_groups l.first (all_parts_seen l.parts)))

abbrev pub invariant-phases_of_parts-loop-command : goal.invariant-phases_of_parts-loop-command
invariant-phases_of_parts-loop-command l =
    Left l.next (commands_make (drop l.command-index l.command-items) + groups_accesses (all_parts_seen (drop (l.part-index + 1) l.parts))) l.first (groups_accesses (all_parts_seen l.parts))
    × (all_from (phases_seen l.done.items) (command_list l.current) l.next (drop l.command-index l.command-items) (drop (l.part-index + 1) l.parts) ≡ phases_in_groups l.first (all_parts_seen l.parts))
