use Rattle.std.proofs.Common.{refl, ◌∙◌}
use Rattle.dh_tree.specs.Indices.{index_context_of, term_index_breaches, terms_index_breaches}
use Rattle.dh_tree.specs.Seen.{term_seen, terms, program_seen}
use Rattle.dh_tree.proofs.Leasts.{keep_turn}
use Rattle.dh_views.proofs.walks.+terms.Goals as goal

pub keep_terms-loop-index-preserved : goal.keep_terms-loop-index-preserved
keep_terms-loop-index-preserved t c =
    keep_turn term_seen (term_index_breaches (index_context_of (program_seen c.args.typed.now))) (λ ts. terms_index_breaches (index_context_of (program_seen c.args.typed.now)) (terms ts)) (λ b bs. refl)
    c.loop-index.kept c.keep_term.new.kept c.args.indices.now c.loop-index.index-index c.index-item.result c.loop-index-test.true c.index-item.is c.keep_term.ensures
    ∙ c.loop-index.invariant
