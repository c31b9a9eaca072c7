-- The numbers so far, and those still to come, are all.
use Rattle.std.proofs.Common.{◌≡◌, ◌-◌, ◌++◌}
use Rattle.dh_flow.specs.ToldWays.{cut_numbers}
use Rattle.dh_flow.proofs.deciding.numbers.Given as goal

abbrev pub invariant-loop-i : goal.invariant-loop-i
invariant-loop-i l = l.numbers.items ++ cut_numbers l.next (l.count - l.i) ≡ cut_numbers l.first l.count
