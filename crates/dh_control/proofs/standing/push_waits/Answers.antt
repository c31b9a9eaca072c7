use Rattle.dh_cells.proofs.CellsAppended.{wire_stays}
use Rattle.dh_control.specs.StateWires.{wait_of}
use Rattle.dh_control.proofs.StandsTell.{wires_at}
use Rattle.dh_control.proofs.WiresListed.{next_listed}
use Rattle.dh_control.proofs.standing.push_waits.Goals as goal

pub push_wait-requires-clause-clock : goal.push_wait-requires-clause-clock
push_wait-requires-clause-clock c = wire_stays _ _ c.args.clock c.args.width c.loop-i.invariant.grows c.requires.clock

pub push_wait-requires-clause-active : goal.push_wait-requires-clause-active
push_wait-requires-clause-active c = wire_stays _ _ _ 1 c.loop-i.invariant.grows (wires_at _ c.args.active.now 1 c.loop-i.i c.requires.active c.loop-i-test.true)

pub loop-i-preserved : goal.loop-i-preserved
loop-i-preserved c = next_listed _ _ _ (λ i. 1) (wait_of c.args.clock c.args.active.now c.args.lengths.now) c.loop-i.i c.in_ok-wait.wait _ _ c.loop-i.invariant c.in_ok-wait.ensures c.in_ok-push.ensures
