use Rattle.std.proofs.Common.{◌≡◌, length}
use Rattle.dh_events.specs.Rounds.{rounds_of}
use Rattle.dh_events.proofs.rounds.grow.Given as goal

abbrev pub invariant-loop : goal.invariant-loop
invariant-loop l = (length l.rounds.items ≡ l.counter) × (rounds_of l.rounds.items ≡ rounds_of l.fn.rounds.items)
