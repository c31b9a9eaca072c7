use Rattle.std.proofs.Common.{◌≡◌, ℕ, length}
use Rattle.std.specs.Prelude.{None}
use Rattle.dh_lengths.specs.LiveFirsts.{live_first}
use Rattle.dh_lengths.proofs.live.no_reads.Given as goal

abbrev pub invariant-loop : goal.invariant-loop
invariant-loop l = ((class : ℕ) → live_first l.firsts.items class ≡ None) × (length l.firsts.items ≡ l.counter)
