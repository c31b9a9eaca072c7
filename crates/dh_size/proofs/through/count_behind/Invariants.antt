use Rattle.std.proofs.Common.{◌≡◌}
use Rattle.dh_size.specs.Marks.{marked_behind}
use Rattle.dh_size.specs.Sizes.{count_below}
use Rattle.dh_size.proofs.through.count_behind.Given as goal

abbrev pub invariant-loop-behind : goal.invariant-loop-behind
invariant-loop-behind l = l.count ≡ count_below (marked_behind l.carrier l.marks) l.behind
