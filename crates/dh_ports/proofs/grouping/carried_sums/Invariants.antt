use Rattle.std.proofs.Common.{◌≡◌, length}
use Rattle.dh_ports.specs.Carriers.{AreGroupSums}
use Rattle.dh_ports.specs.Copies.{IsPast}
use Rattle.dh_ports.proofs.grouping.carried_sums.Given as goal

abbrev pub invariant-loop-group : goal.invariant-loop-group
invariant-loop-group l = (length l.counts.items ≡ l.carrier.banks) × (IsPast l.seen × AreGroupSums l.reach l.carrier l.stride l.group l.sums.items)
