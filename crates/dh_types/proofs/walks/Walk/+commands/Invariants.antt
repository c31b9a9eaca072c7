use Rattle.dh_tree.specs.Seen.{action_seen, part_seen}
use Rattle.dh_types.specs.Walks.{typing_state_of}
use Rattle.dh_base.proofs.InPlace.{SoFar}
use Rattle.dh_types.proofs.ListsDone.{action_step, action_made, part_step, part_made}
use Rattle.dh_types.proofs.walks.Walk.+commands.Given as goal

abbrev pub invariant-part-loop-command : goal.invariant-part-loop-command
invariant-part-loop-command l =
    goal.unvisited-part-loop-command l
    × SoFar action_seen action_step action_made l.initial.command-items l.command-items l.command-index (typing_state_of l.initial.self) (typing_state_of l.self)

abbrev pub invariant-form-loop-part : goal.invariant-form-loop-part
invariant-form-loop-part l =
    goal.unvisited-form-loop-part l
    × SoFar part_seen part_step part_made l.initial.part-items l.part-items l.part-index (typing_state_of l.initial.self) (typing_state_of l.self)
