use Rattle.dh_cells.proofs.CellsAppended.{wire_stays}
use Rattle.dh_control.proofs.StandsTell.{next_stand}
use Rattle.dh_control.proofs.standing.push_stands.Goals as goal

pub push_match-requires-clause-there : goal.push_match-requires-clause-there
push_match-requires-clause-there c = wire_stays _ _ c.args.wire c.args.width c.loop-i.invariant.grows c.requires.wire

pub loop-i-preserved : goal.loop-i-preserved
loop-i-preserved c =
    next_stand _ _ _ c.args.wire c.args.states.now c.loop-i.i c.in_ok-item.item c.index-states-i.result _ _ c.loop-i-test.true c.index-states-i.is c.loop-i.invariant c.in_ok-item.ensures c.in_ok-push.ensures
