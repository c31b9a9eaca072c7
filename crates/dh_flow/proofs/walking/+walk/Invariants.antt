-- Whatever the walk of the rest does from here, all of the walk does from its start.
use Rattle.std.proofs.Common.{◌≡◌}
use Rattle.dh_flow.proofs.WalksTurned.{NodesLead, ListsLead, InnerLead}
use Rattle.dh_flow.proofs.walking.+walk.Given as goal

abbrev pub invariant-walk-loop-node : goal.invariant-walk-loop-node
invariant-walk-loop-node l = NodesLead l.nodes l.node-index l.own l.way l.fn.marks.items l.marks.items l.fn.graph l.graph

abbrev pub invariant-walk_lists-loop-node : goal.invariant-walk_lists-loop-node
invariant-walk_lists-loop-node l = InnerLead l.node-items l.node-index l.group l.initial.marks.items l.marks.items l.initial.graph l.graph × (l.after ≡ l.initial.after)

abbrev pub invariant-walk_lists-loop-list : goal.invariant-walk_lists-loop-list
invariant-walk_lists-loop-list l = ListsLead l.lists l.list-index l.parent l.own l.group l.fn.way l.after l.fn.marks.items l.marks.items l.fn.graph l.graph l.groups.items
