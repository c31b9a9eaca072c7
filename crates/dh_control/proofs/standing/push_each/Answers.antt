use Rattle.dh_cells.proofs.CellsAppended.{wire_stays}
use Rattle.dh_control.specs.StateWires.{with_each_shown}
use Rattle.dh_control.proofs.StandsTell.{wires_at}
use Rattle.dh_control.proofs.WiresListed.{next_listed}
use Rattle.dh_control.proofs.standing.push_each.Goals as goal

pub push_both-requires-clause-left : goal.push_both-requires-clause-left
push_both-requires-clause-left c = wire_stays _ _ c.args.test 1 c.loop-i.invariant.grows c.requires.test

pub push_both-requires-clause-right : goal.push_both-requires-clause-right
push_both-requires-clause-right c = wire_stays _ _ _ 1 c.loop-i.invariant.grows (wires_at _ c.args.wires.now 1 c.loop-i.i c.requires.wires c.loop-i-test.true)

pub loop-i-preserved : goal.loop-i-preserved
loop-i-preserved c = next_listed _ _ _ (λ i. 1) (with_each_shown c.args.test c.args.wires.now) c.loop-i.i c.in_ok-both.both _ _ c.loop-i.invariant c.in_ok-both.ensures c.in_ok-push.ensures
