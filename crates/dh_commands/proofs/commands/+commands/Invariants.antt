-- Whatever the rest of the parts does from here, they do from the begin.
use Rattle.std.proofs.Common.{◌+◌, drop, map}
use Rattle.dh_tree.specs.PlainTrees.{group_then}
use Rattle.dh_tree.specs.Seen.{action_seen, actions, all_parts_seen}
use Rattle.dh_commands.specs.Parted.{RestDoesWhole}
use Rattle.dh_commands.specs.MadeCommands.{RestMakesWhole}
use Rattle.dh_commands.proofs.commands.+commands.Given as goal

abbrev pub invariant-push_parts-loop-part : goal.invariant-push_parts-loop-part
invariant-push_parts-loop-part l = record {
  means : RestDoesWhole l.scene l.around (all_parts_seen l.parts) (all_parts_seen (drop l.part-index l.parts)) l.first l.next l.fn.building l.building;
  made : RestMakesWhole l.scene l.around (all_parts_seen l.parts) (all_parts_seen (drop l.part-index l.parts)) l.first l.next l.fn.building l.building;
}

abbrev pub invariant-push_parts-loop-command : goal.invariant-push_parts-loop-command
invariant-push_parts-loop-command l = record {
  means : RestDoesWhole l.scene l.around (all_parts_seen l.parts) (group_then (actions (map action_seen (drop l.command-index l.command-items))) (all_parts_seen (drop (l.part-index + 1) l.parts))) l.first l.next l.fn.building l.building;
  made : RestMakesWhole l.scene l.around (all_parts_seen l.parts) (group_then (actions (map action_seen (drop l.command-index l.command-items))) (all_parts_seen (drop (l.part-index + 1) l.parts))) l.first l.next l.fn.building l.building;
}
