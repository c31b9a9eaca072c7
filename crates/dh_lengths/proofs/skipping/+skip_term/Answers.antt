use Rattle.std.proofs.Common.{ap, map}
use Rattle.dh_tree.specs.Seen.{term_seen, terms}
use Rattle.dh_meaning.specs.AccessNumbers.{term_accesses, terms_accesses}
use Rattle.dh_events.proofs.Turns.{at_item}
use Rattle.dh_lengths.proofs.Zeros.{zero_turn}
use Rattle.dh_lengths.proofs.skipping.+skip_term.Goals as goal

pub skip_terms-loop-index-preserved : goal.skip_terms-loop-index-preserved
skip_terms-loop-index-preserved t c =
    zero_turn c.loop-index.reads.items c.skip_term.new.reads.items _ (term_accesses (term_seen c.index-item.result)) _ _ c.in_ok-skip_term.ensures
    (ap (λ l. terms_accesses (terms (map term_seen l))) (at_item c.args.indices.now c.loop-index.index-index c.index-item.result c.loop-index-test.true c.index-item.is)) c.loop-index.invariant
