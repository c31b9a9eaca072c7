use Rattle.dh_cells.proofs.CellsAppended.{wire_stays}
use Rattle.dh_control.specs.FaultTests.{CheckSuits}
use Rattle.dh_control.proofs.ListFacts.{at_item}
use Rattle.dh_control.proofs.ChecksTested.{checks_turn, suits_check_stay}
use Rattle.dh_control.proofs.checking.push_checks.Goals as goal

pub push_check-requires-clause-active : goal.push_check-requires-clause-active
push_check-requires-clause-active c = wire_stays _ _ c.args.active 1 c.loop-operation.invariant.grows c.requires.active

pub push_check-requires-clause-suits : goal.push_check-requires-clause-suits
push_check-requires-clause-suits c =
    suits_check_stay _ _ c.args.wires.now c.operation-item.result c.loop-operation.invariant.grows
    (at_item (CheckSuits c.args.circuit.now c.args.wires.now) c.args.operations.now c.loop-operation.operation-index c.operation-item.result c.requires.suits c.loop-operation-test.true c.operation-item.is)

pub loop-operation-preserved : goal.loop-operation-preserved
loop-operation-preserved c =
    checks_turn _ _ _ c.args.active c.args.wires.now c.loop-operation.operation-index c.operation-item.result c.args.operations.now _ _ _ c.loop-operation-test.true c.operation-item.is c.loop-operation.invariant c.in_ok-push_check.ensures
