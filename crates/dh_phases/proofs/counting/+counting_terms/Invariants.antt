-- the number behind what is left is that behind all
use Rattle.std.proofs.Common.{drop}
use Rattle.dh_meaning.specs.AccessNumbers.{terms_accesses}
use Rattle.dh_tree.specs.Seen.{all_terms_seen}
use Rattle.dh_phases.proofs.CountedParts.{Left}
use Rattle.dh_phases.proofs.counting.+counting_terms.Given as goal

abbrev pub invariant-behind_terms-loop-index : goal.invariant-behind_terms-loop-index
invariant-behind_terms-loop-index l = Left l.next (terms_accesses (all_terms_seen (drop l.index-index l.indices))) l.first (terms_accesses (all_terms_seen l.indices))
