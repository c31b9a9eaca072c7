-- The banks before the index are driven.
use Rattle.std.proofs.Common.{take}
use Rattle.dh_control.specs.DriverWires.{BanksDriven}
use Rattle.dh_control.proofs.driving.push_drivers.Given as goal

abbrev pub invariant-loop-i : goal.invariant-loop-i
invariant-loop-i l = BanksDriven l.fn.circuit l.circuit l.kinds l.wires l.asking l.select l.first l.ports l.pairs (take l.i l.banks) l.fn.drivers l.drivers
