-- The ports before the index are joined.
use Rattle.std.proofs.Common.{drop}
use Rattle.dh_join.specs.JoinedPorts.{JoinedSoFar}
use Rattle.dh_join.proofs.ports.join_ports.Given as goal

abbrev pub invariant-loop-i : goal.invariant-loop-i
invariant-loop-i l = JoinedSoFar l.initial.cells l.cells l.ports l.lists l.joined l.i (drop l.i l.lists)
