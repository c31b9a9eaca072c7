use Rattle.std.proofs.Common.{ℕ, ◌+◌, ◌<◌, ◌≤◌, arith, ap, ◌∙◌}
use Rattle.dh_events.specs.Rounds.{with_round}
use Rattle.dh_events.proofs.RoundFacts.{round_set}
use Rattle.dh_events.proofs.rounds.set_round.Goals as goal

within : (place long : ℕ) → place + 1 ≤ long → place < long
within place long e = omega (arith, e)

pub returns : goal.returns
returns c =
    round_set c.grow.new.rounds.items c.args.place c.args.loops (within _ _ c.in_ok-grow.ensures.long)
    ∙ ap (λ f. with_round f c.args.place c.args.loops.items) c.in_ok-grow.ensures.same
