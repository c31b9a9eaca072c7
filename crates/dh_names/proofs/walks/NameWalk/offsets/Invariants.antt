use Rattle.dh_tree.specs.Seen.{factor_seen}
use Rattle.dh_names.specs.Walks.{state_of}
use Rattle.dh_base.proofs.InPlace.{Unvisited, SoFar}
use Rattle.dh_names.proofs.OffsetsDone.{offset_step, offset_made}
use Rattle.dh_names.proofs.walks.NameWalk.offsets.Given as goal

abbrev pub invariant-loop-pair : goal.invariant-loop-pair
invariant-loop-pair l =
    Unvisited l.initial.pair-items l.pair-items l.pair-index
    × SoFar factor_seen offset_step offset_made l.initial.pair-items l.pair-items l.pair-index (state_of l.initial.self) (state_of l.self)
