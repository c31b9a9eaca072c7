use Rattle.dh_ports.proofs.LaneTurns.{LanesSoFar}
use Rattle.dh_ports.proofs.copies.lanes_of.Given as goal

abbrev pub invariant-loop-i : goal.invariant-loop-i
invariant-loop-i l = LanesSoFar l.typed l.loops l.dims l.indices l.i l.lanes.items l.times
