use Rattle.dh_swept.proofs.WiresFound.{ports_turn}
use Rattle.dh_swept.proofs.marking.mark_ports.Goals as goal

pub loop-list-preserved : goal.loop-list-preserved
loop-list-preserved c =
    ports_turn c.loop-list.list-index c.args.lists.now c.list-item.result c.as_slice.result.now c.args.marks.now c.loop-list.marks c.mark_drivers.new.marks c.loop-list-test.true c.list-item.is c.as_slice.ensures c.loop-list.invariant
    c.in_ok-mark_drivers.ensures
