use Rattle.std.proofs.Common.{map, drop, ap, ◌+◌}
use Rattle.dh_tree.specs.Seen.{factor_seen, term_seen}
use Rattle.dh_events.proofs.Turns.{at_item}
use Rattle.dh_lengths.proofs.KeptViews.{each_begin, each_end, each_turn}
use Rattle.dh_lengths.proofs.Zeros.{drop_past}
use Rattle.dh_lengths.proofs.views.level_suffixes.Goals as goal

pub loop-pair-init : goal.loop-pair-init
loop-pair-init c = λ known u s low. each_begin known c.args.held.now c.args.outer c.new-levels.result.items (map (λ s. s.offset) (map factor_seen (c.args.by.now))) c.new-levels.ensures.items u s low

pub loop-pair-preserved : goal.loop-pair-preserved
loop-pair-preserved c = λ known u s low.
    each_turn known c.args.held.now c.loop-pair.held c.level_term.new.held c.args.outer c.in_ok-level_term.field-0 c.loop-pair.levels.items c.push.new.self.items (term_seen c.pair-item.result.1) (map (λ s. s.offset) (map factor_seen (drop (c.loop-pair.pair-index + 1) c.args.by.now))) _ (map (λ s. s.offset) (map factor_seen (c.args.by.now)))
    (ap (λ l. map (λ s. s.offset) (map factor_seen (l))) (at_item c.args.by.now c.loop-pair.pair-index c.pair-item.result c.loop-pair-test.true c.pair-item.is)) c.in_ok-push.ensures.items (λ led sound within. c.in_ok-level_term.ensures known led sound within) (c.loop-pair.invariant known u s low)

pub returns : goal.returns
returns c = λ known u s low.
    each_end known c.args.held.now c.loop-pair.held c.args.outer c.loop-pair.levels.items _ (map (λ s. s.offset) (map factor_seen (c.args.by.now)))
    (ap (λ l. map (λ s. s.offset) (map factor_seen (l))) (drop_past c.args.by.now c.loop-pair.pair-index c.loop-pair-test.false)) (c.loop-pair.invariant known u s low)
