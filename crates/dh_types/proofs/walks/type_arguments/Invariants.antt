use Rattle.dh_tree.specs.Seen.{term_seen}
use Rattle.dh_types.specs.Facts.{facts_seen}
use Rattle.dh_base.proofs.InPlace.{Unvisited, SoFar}
use Rattle.dh_types.proofs.Lists.{argument_step, argument_made}
use Rattle.dh_types.proofs.walks.type_arguments.Given as goal

abbrev pub invariant-loop-argument : goal.invariant-loop-argument
invariant-loop-argument l =
    Unvisited l.initial.argument-items l.argument-items l.argument-index
    × SoFar term_seen (argument_step (facts_seen l.facts)) (argument_made (facts_seen l.facts)) l.initial.argument-items l.argument-items l.argument-index (l.initial.rest, l.initial.kept) (l.rest, l.kept)
