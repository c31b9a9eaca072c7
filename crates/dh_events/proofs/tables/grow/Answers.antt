use Rattle.std.proofs.Common.{rules, ap, ◌∙◌}
use Rattle.dh_events.specs.Tables.{table_at}
use Rattle.dh_events.proofs.Turns.{zeros_more}
use Rattle.dh_events.proofs.tables.grow.Goals as goal

pub loop-preserved : goal.loop-preserved
loop-preserved c = (search rules, ap table_at c.in_ok-push.ensures.items ∙ (zeros_more c.loop.numbers.items ∙ c.loop.invariant.1))
