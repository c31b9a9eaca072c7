use Rattle.dh_tree.specs.Seen.{factor_seen}
use Rattle.dh_types.specs.Walks.{typing_state_of}
use Rattle.dh_base.proofs.InPlace.{Unvisited, SoFar}
use Rattle.dh_types.proofs.Lists.{suffix_step, suffix_made}
use Rattle.dh_types.proofs.walks.Walk.suffixes.Given as goal

abbrev pub invariant-loop-pair : goal.invariant-loop-pair
invariant-loop-pair l =
    Unvisited l.initial.pair-items l.pair-items l.pair-index
    × SoFar factor_seen suffix_step suffix_made l.initial.pair-items l.pair-items l.pair-index (typing_state_of l.initial.self) (typing_state_of l.self)
