use Rattle.dh_tree.specs.Seen.{term_seen}
use Rattle.dh_types.specs.Facts.{facts_seen}
use Rattle.dh_base.proofs.InPlace.{SoFar}
use Rattle.dh_types.proofs.Lists.{term_step, term_made}
use Rattle.dh_types.proofs.expressions.+expressions.Given as goal

abbrev pub invariant-type_terms-loop-term : goal.invariant-type_terms-loop-term
invariant-type_terms-loop-term l =
    goal.unvisited-type_terms-loop-term l
    × SoFar term_seen term_step (term_made (facts_seen l.facts)) l.initial.term-items l.term-items l.term-index tt tt
