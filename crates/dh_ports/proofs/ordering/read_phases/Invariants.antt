use Rattle.std.proofs.Common.{drop}
use Rattle.dh_ports.specs.Orders.{ReadSoFar}
use Rattle.dh_ports.proofs.ordering.read_phases.Given as goal

abbrev pub invariant-loop-event : goal.invariant-loop-event
invariant-loop-event l = ReadSoFar l.events (drop l.event l.events) l.read.items
