use Rattle.dh_tree.specs.Seen.{term_seen}
use Rattle.dh_types.specs.Walks.{typing_state_of}
use Rattle.dh_base.proofs.InPlace.{Unvisited, SoFar}
use Rattle.dh_types.proofs.Lists.{shift_step, shift_made}
use Rattle.dh_types.proofs.walks.Walk.shifts.Given as goal

abbrev pub invariant-loop-offset : goal.invariant-loop-offset
invariant-loop-offset l =
    Unvisited l.initial.offset-items l.offset-items l.offset-index
    × SoFar term_seen shift_step shift_made l.initial.offset-items l.offset-items l.offset-index (typing_state_of l.initial.self) (typing_state_of l.self)
