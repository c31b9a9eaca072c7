use Rattle.std.proofs.Common.{rules, ◌≡◌, None, ap, ◌∙◌, slice_set, Some}
use Rattle.dh_lengths.specs.LiveFirsts.{live_first, first_read_from}
use Rattle.dh_lengths.proofs.LiveTurns.{read_first}
use Rattle.dh_lengths.proofs.live.Live.read.Goals as goal

pub returns-in_ok-push-clause-met : goal.returns-in_ok-push-clause-met
returns-in_ok-push-clause-met c = λ class.
    let live = c.args.self.now in
    let none : live_first c.args.self.now.firsts.items c.args.class ≡ None = search rules in
    ap (λ l. first_read_from (slice_set live.firsts.items c.args.class (Some c.args.number)) l live.outer.items class) c.in_ok-push.ensures.items
    ∙ read_first live.firsts.items live.log.items live.outer.items c.args.class c.args.number class c.requires.within none
