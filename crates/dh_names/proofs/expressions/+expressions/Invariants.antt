use Rattle.dh_tree.specs.Seen.{term_seen}
use Rattle.dh_names.specs.Visible.{visible}
use Rattle.dh_base.proofs.InPlace.{SoFar}
use Rattle.dh_names.proofs.TermForms.{term_step, term_made}
use Rattle.dh_names.proofs.expressions.+expressions.Given as goal

abbrev pub invariant-resolve_terms-loop-term : goal.invariant-resolve_terms-loop-term
invariant-resolve_terms-loop-term l =
    goal.unvisited-resolve_terms-loop-term l
    × SoFar term_seen (term_step (visible l.names)) (term_made (visible l.names)) l.initial.term-items l.term-items l.term-index l.initial.least l.least
