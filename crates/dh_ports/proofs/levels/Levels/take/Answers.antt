use Rattle.std.proofs.Common.{subst, ℕ, ◌<◌, ◌∙◌}
use Rattle.dh_ports.proofs.LevelFacts.{taken_level}
use Rattle.dh_ports.proofs.levels.Levels.take.Goals as goal

pub returns-in_ok-push-clause-taken : goal.returns-in_ok-push-clause-taken
returns-in_ok-push-clause-taken c = λ s.
    taken_level c.args.self.now.left.items c.args.self.now.log.items c.push.new.self.items c.args.self.now.lows.items c.args.self.now.outer.items c.args.slot c.args.takes c.index-left.result.now _ s
    (subst (λ (n : ℕ). c.args.slot < n) (c.len.ensures ∙ c.args.self.now.left.ok.0) c.if-slot-len.true) c.index-left.ensures (c.saturating_sub.ensures) c.in_ok-push.ensures.items
