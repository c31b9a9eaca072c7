use Rattle.std.specs.Prelude.{◌^◌, map}
use Rattle.dh_tree.specs.Seen.{action_seen, part_seen}
use Rattle.dh_tree.specs.NameCounts.{declared_in, declared_in_actions}
use Rattle.dh_names.specs.Walks.{state_of}
use Rattle.dh_base.proofs.InPlace.{Fits, FitsSoFar}
use Rattle.dh_names.proofs.ListsDone.{entity_count, action_step, action_made, action_grows, part_step, part_made, part_grows}
use Rattle.dh_names.proofs.FormsKept.{PartSoFar, PartsSoFar}
use Rattle.dh_names.proofs.walks.NameWalk.+commands.Given as goal

abbrev pub invariant-part-loop-command : goal.invariant-part-loop-command
invariant-part-loop-command l =
    goal.unvisited-part-loop-command l
    × ((Fits action_seen action_step action_made entity_count declared_in action_grows (2 ^ 32) (state_of l.initial.self) (map action_seen l.initial.command-items)
    → FitsSoFar action_seen action_step action_made entity_count declared_in action_grows (2 ^ 32) l.initial.command-items l.command-items l.command-index (state_of l.initial.self) (state_of l.self))
    × PartSoFar l.initial.command-items l.command-index l.initial.unbuilt l.unbuilt l.stepped)

abbrev pub invariant-form-loop-part : goal.invariant-form-loop-part
invariant-form-loop-part l =
    goal.unvisited-form-loop-part l
    × ((Fits part_seen part_step part_made entity_count declared_in_actions part_grows (2 ^ 32) (state_of l.initial.self) (map part_seen l.initial.part-items)
    → FitsSoFar part_seen part_step part_made entity_count declared_in_actions part_grows (2 ^ 32) l.initial.part-items l.part-items l.part-index (state_of l.initial.self) (state_of l.self))
    × PartsSoFar l.initial.part-items l.part-index l.initial.unbuilt l.unbuilt l.initial.holds l.holds)
