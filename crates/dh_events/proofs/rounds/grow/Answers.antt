use Rattle.std.proofs.Common.{rules, ap, ◌∙◌}
use Rattle.dh_events.specs.Rounds.{rounds_of}
use Rattle.dh_events.proofs.RoundFacts.{rounds_more}
use Rattle.dh_events.proofs.rounds.grow.Goals as goal

pub loop-preserved : goal.loop-preserved
loop-preserved c = (search rules, ap rounds_of c.in_ok-push.ensures.items ∙ (rounds_more c.loop.rounds.items c.new.result c.new.ensures.items ∙ c.loop.invariant.1))
