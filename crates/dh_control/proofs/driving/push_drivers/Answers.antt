use Rattle.std.proofs.Common.{refl}
use Rattle.dh_cells.proofs.CellsAppended.{wire_stays}
use Rattle.dh_control.proofs.DriversMade.{may_stay, next_driven}
use Rattle.dh_control.proofs.driving.push_drivers.Goals as goal

pub push_pick-requires-clause-test : goal.push_pick-requires-clause-test
push_pick-requires-clause-test c = wire_stays _ _ c.args.asking.test 1 c.loop-i.invariant.grows c.requires.test

pub push_pick-requires-clause-select : goal.push_pick-requires-clause-select
push_pick-requires-clause-select c = may_stay _ _ c.args.kinds.now c.args.wires.now c.args.select c.loop-i.invariant.grows c.requires.select

pub loop-i-preserved : goal.loop-i-preserved
loop-i-preserved c =
    next_driven _ _ _ c.args.kinds.now c.args.wires.now c.args.asking c.args.select c.args.first c.args.ports c.args.pairs.now c.args.banks.now c.loop-i.i (0, 0) c.in_ok-enable.enable c.port_of_bank-port.result
    c.from.result c.from-in-loop-i.result _ _ _ _ c.loop-i-test.true c.port_of_bank-port.ensures c.from.ensures c.from-in-loop-i.ensures refl c.loop-i.invariant c.in_ok-enable.ensures c.in_ok-push.ensures
