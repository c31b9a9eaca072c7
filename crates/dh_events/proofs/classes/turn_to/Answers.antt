use Rattle.std.proofs.lemmas.Result.{on_ok_weaker}
use Rattle.dh_events.proofs.classes.turn_to.Goals as goal

pub returns-then-not-is_empty-clause-turned : goal.returns-then-not-is_empty-clause-turned
returns-then-not-is_empty-clause-turned c = on_ok_weaker c.gather.result (λ turned. turned c.args.phase c.ranges.phase.fits) c.gather.ensures.turned
