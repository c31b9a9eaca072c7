use Rattle.std.proofs.Common.{◌≡◌, ◌++◌, drop, length}
use Rattle.dh_lengths.specs.LiveFirsts.{first_read_at, none_read, shares_of}
use Rattle.dh_lengths.proofs.sharing.shares_met.Given as goal

abbrev pub invariant-loop-m : goal.invariant-loop-m
invariant-loop-m l =
    (l.shares.items ++ shares_of (first_read_at l.live) (length l.shares.items) (drop l.m-index l.met) ≡ shares_of none_read 0 l.met)
    × (length l.live.firsts.items ≡ l.classes)
