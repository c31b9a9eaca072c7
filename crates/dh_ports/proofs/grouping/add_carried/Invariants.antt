use Rattle.std.proofs.Common.{slice_index}
use Rattle.dh_ports.proofs.GroupTurns.{AddedSoFar}
use Rattle.dh_ports.proofs.grouping.add_carried.Given as goal

abbrev pub invariant-loop-bank : goal.invariant-loop-bank
invariant-loop-bank l = AddedSoFar l.carrier (slice_index l.counts) l.fn.sums l.sums l.bank
