use Rattle.std.proofs.Common.{ap}
use Rattle.dh_tree.specs.Seen.{term_seen}
use Rattle.dh_meaning.specs.AccessNumbers.{term_accesses}
use Rattle.dh_events.proofs.Turns.{at_item}
use Rattle.dh_lengths.specs.HeldLevels.{suffixes_accesses}
use Rattle.dh_lengths.proofs.Zeros.{zero_turn}
use Rattle.dh_lengths.proofs.skipping.skip_suffixes.Goals as goal

pub loop-pair-preserved : goal.loop-pair-preserved
loop-pair-preserved c =
    zero_turn c.loop-pair.reads.items c.skip_term.new.reads.items _ (term_accesses (term_seen c.pair-item.result.1)) _ _ c.in_ok-skip_term.ensures
    (ap suffixes_accesses (at_item c.args.by.now c.loop-pair.pair-index c.pair-item.result c.loop-pair-test.true c.pair-item.is)) c.loop-pair.invariant
