use Rattle.std.proofs.Common.{◌≡◌, map, drop}
use Rattle.dh_tree.specs.Indices.{index_context_of, terms_index_breaches}
use Rattle.dh_tree.specs.LeastBreach.{least_of}
use Rattle.dh_tree.specs.Seen.{term_seen, terms, program_seen}
use Rattle.dh_views.proofs.walks.+terms.Given as goal

-- what is left leads to what all leads to
abbrev pub invariant-keep_terms-loop-index : goal.invariant-keep_terms-loop-index
invariant-keep_terms-loop-index l =
    least_of l.kept (terms_index_breaches (index_context_of (program_seen l.typed)) (terms (map term_seen (drop l.index-index l.indices))))
    ≡ least_of l.fn.kept (terms_index_breaches (index_context_of (program_seen l.typed)) (terms (map term_seen l.indices)))
