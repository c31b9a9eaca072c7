-- the number behind what is left is that behind all
use Rattle.std.proofs.Common.{◌+◌, drop}
use Rattle.dh_meaning.specs.AccessNumbers.{groups_accesses}
use Rattle.dh_tree.specs.Seen.{all_parts_seen}
use Rattle.dh_phases.proofs.CountedParts.{Left, left_of}
use Rattle.dh_phases.proofs.counting.+counting.Given as goal

abbrev pub invariant-behind_parts-loop-part : goal.invariant-behind_parts-loop-part
invariant-behind_parts-loop-part l = Left l.next (groups_accesses (all_parts_seen (drop l.part-index l.parts))) l.first (groups_accesses (all_parts_seen l.parts))

abbrev pub invariant-behind_parts-loop-command : goal.invariant-behind_parts-loop-command
invariant-behind_parts-loop-command l = Left l.next (left_of l.command-items l.command-index l.parts (l.part-index + 1)) l.first (groups_accesses (all_parts_seen l.parts))
