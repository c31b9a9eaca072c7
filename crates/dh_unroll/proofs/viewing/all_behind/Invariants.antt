-- The sets of the first banks are in it.
use Rattle.std.proofs.Common.{◌≡◌, ℕ}
use Rattle.dh_viewing.specs.ReachedBanks.{is_in}
use Rattle.dh_unroll.specs.ViewsListed.{any_in}
use Rattle.dh_unroll.proofs.viewing.all_behind.Given as goal

abbrev pub invariant-loop-bank : goal.invariant-loop-bank
invariant-loop-bank l = (behind : ℕ) → is_in l.found behind ≡ any_in l.own l.sets l.bank behind
