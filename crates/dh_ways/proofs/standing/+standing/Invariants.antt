-- Those found so far, and those of the rest, are all.
use Rattle.std.proofs.Common.{◌≡◌, ◌++◌, map, drop}
use Rattle.dh_tree.specs.Seen.{action_seen, actions, part_seen, groups}
use Rattle.dh_ways.specs.CutStands.{groups_cut_stands, part_cut_stands}
use Rattle.dh_ways.specs.Stands.{stand_seen}
use Rattle.dh_ways.proofs.standing.+standing.Given as goal

abbrev pub invariant-stand_in_parts-loop-part : goal.invariant-stand_in_parts-loop-part
invariant-stand_in_parts-loop-part l =
    map stand_seen l.found.items ++ groups_cut_stands l.depth l.copies (groups (map part_seen (drop l.part-index l.parts))) ≡ map stand_seen l.fn.found.items ++ groups_cut_stands l.depth l.copies (groups (map part_seen l.parts))

abbrev pub invariant-stand_in_parts-loop-command : goal.invariant-stand_in_parts-loop-command
invariant-stand_in_parts-loop-command l =
    map stand_seen l.found.items ++ part_cut_stands l.depth l.copies (actions (map action_seen (drop l.command-index l.command-items))) ≡ map stand_seen l.initial.found.items ++ part_cut_stands l.depth l.copies (actions (map action_seen l.command-items))
