use Rattle.std.proofs.Common.{◌≡◌, slice_index}
use Rattle.dh_viewing.specs.Carried.{largest}
use Rattle.dh_ports.proofs.grouping.largest_of.Given as goal

abbrev pub invariant-loop-i : goal.invariant-loop-i
invariant-loop-i l = l.most ≡ largest (slice_index l.counts) l.i
