use Rattle.std.proofs.Common.{rules, ap, ◌∙◌}
use Rattle.dh_events.specs.Scopes.{scope_at}
use Rattle.dh_events.proofs.ScopeFacts.{nones_more}
use Rattle.dh_events.proofs.dependence.grow.Goals as goal

pub loop-preserved : goal.loop-preserved
loop-preserved c = (search rules, ap scope_at c.in_ok-push.ensures.items ∙ (nones_more c.loop.scopes.items ∙ c.loop.invariant.1))
