use Rattle.std.proofs.Common.{◌≡◌, ℕ, drop, length}
use Rattle.dh_lengths.specs.LiveFirsts.{cleared, live_first}
use Rattle.dh_lengths.proofs.live.forget.Given as goal

abbrev pub invariant-loop-class : goal.invariant-loop-class
invariant-loop-class l =
    ((class : ℕ) → cleared (drop l.class-index l.classes) class (live_first l.firsts class) ≡ cleared l.classes class (live_first l.fn.firsts class))
    × (length l.firsts ≡ length l.fn.firsts)
