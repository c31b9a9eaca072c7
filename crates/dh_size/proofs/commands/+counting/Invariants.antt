-- the sum to come of what is left is that of all
use Rattle.std.proofs.Common.{◌+◌, drop}
use Rattle.dh_tree.specs.Seen.{all_parts_seen}
use Rattle.dh_size.specs.Summed.{groups_unit}
use Rattle.dh_size.proofs.SummedParts.{Left, left_of}
use Rattle.dh_size.proofs.commands.+counting.Given as goal

abbrev pub invariant-with_parts-loop-part : goal.invariant-with_parts-loop-part
invariant-with_parts-loop-part l = Left l.next (groups_unit (all_parts_seen (drop l.part-index l.parts))) l.sum (groups_unit (all_parts_seen l.parts))

abbrev pub invariant-with_parts-loop-command : goal.invariant-with_parts-loop-command
invariant-with_parts-loop-command l = Left l.next (left_of l.command-items l.command-index l.parts (l.part-index + 1)) l.sum (groups_unit (all_parts_seen l.parts))
