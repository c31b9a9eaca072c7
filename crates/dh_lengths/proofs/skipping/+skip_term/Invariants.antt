use Rattle.std.proofs.Common.{◌≡◌, ◌++◌, map, drop}
use Rattle.dh_tree.specs.Seen.{term_seen, terms}
use Rattle.dh_meaning.specs.AccessNumbers.{terms_accesses}
use Rattle.dh_lengths.specs.HeldLevels.{zero_levels}
use Rattle.dh_lengths.proofs.skipping.+skip_term.Given as goal

abbrev pub invariant-skip_terms-loop-index : goal.invariant-skip_terms-loop-index
invariant-skip_terms-loop-index l =
    l.reads.items ++ zero_levels (terms_accesses (terms (map term_seen (drop l.index-index l.indices)))) ≡ l.fn.reads.items ++ zero_levels (terms_accesses (terms (map term_seen l.indices)))
