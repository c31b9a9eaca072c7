use Rattle.std.proofs.Common.{map, drop, ap, ◌+◌}
use Rattle.dh_tree.specs.Seen.{factor_seen, term_seen}
use Rattle.dh_events.proofs.Turns.{at_item}
use Rattle.dh_lengths.proofs.KeptViews.{each_begin, each_end, each_turn}
use Rattle.dh_lengths.proofs.Zeros.{drop_past}
use Rattle.dh_lengths.proofs.views.level_all.Goals as goal

pub loop-value-init : goal.loop-value-init
loop-value-init c = λ known u s low. each_begin known c.args.held.now c.args.outer c.new-levels.result.items (map term_seen (c.args.values.now)) c.new-levels.ensures.items u s low

pub loop-value-preserved : goal.loop-value-preserved
loop-value-preserved c = λ known u s low.
    each_turn known c.args.held.now c.loop-value.held c.level_term.new.held c.args.outer c.in_ok-level_term.field-0 c.loop-value.levels.items c.push.new.self.items (term_seen c.value-item.result) (map term_seen (drop (c.loop-value.value-index + 1) c.args.values.now)) _ (map term_seen (c.args.values.now))
    (ap (λ l. map term_seen (l)) (at_item c.args.values.now c.loop-value.value-index c.value-item.result c.loop-value-test.true c.value-item.is)) c.in_ok-push.ensures.items (λ led sound within. c.in_ok-level_term.ensures known led sound within) (c.loop-value.invariant known u s low)

pub returns : goal.returns
returns c = λ known u s low.
    each_end known c.args.held.now c.loop-value.held c.args.outer c.loop-value.levels.items _ (map term_seen (c.args.values.now))
    (ap (λ l. map term_seen (l)) (drop_past c.args.values.now c.loop-value.value-index c.loop-value-test.false)) (c.loop-value.invariant known u s low)
