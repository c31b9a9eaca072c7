-- The checks of the operations before the index are tested.
use Rattle.std.proofs.Common.{take}
use Rattle.dh_control.specs.FaultTests.{ChecksAdded}
use Rattle.dh_control.proofs.checking.push_checks.Given as goal

abbrev pub invariant-loop-operation : goal.invariant-loop-operation
invariant-loop-operation l = ChecksAdded l.fn.circuit l.circuit l.active l.wires (take l.operation-index l.operations) l.fn.tests l.tests
