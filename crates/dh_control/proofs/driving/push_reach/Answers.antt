use Rattle.dh_cells.proofs.CellsAppended.{wire_stays}
use Rattle.dh_control.proofs.DriversMade.{may_stay}
use Rattle.dh_control.proofs.UsesMade.{reach_asked}
use Rattle.dh_control.proofs.driving.push_reach.Goals as goal

pub push_drivers-requires-clause-test : goal.push_drivers-requires-clause-test
push_drivers-requires-clause-test c = wire_stays _ _ c.args.test 1 c.in_ok-row.ensures.grows c.requires.test

pub push_drivers-requires-clause-select : goal.push_drivers-requires-clause-select
push_drivers-requires-clause-select c = may_stay _ _ c.args.kinds.now c.args.wires.now c.args.reach.now.select c.in_ok-row.ensures.grows c.requires.suits.select

pub returns : goal.returns
returns c =
    reach_asked _ _ _ c.args.kinds.now c.args.wires.now c.args.test c.args.write c.args.value c.in_ok-row.row c.args.reach.now c.args.memory c.args.pairs.now c.as_slice.result.now _ _
    c.in_ok-row.ensures c.as_slice.ensures c.in_ok-push_drivers.ensures
