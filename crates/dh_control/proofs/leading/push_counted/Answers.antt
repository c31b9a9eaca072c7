use Rattle.dh_cells.proofs.CellsAppended.{wire_stays}
use Rattle.dh_control.proofs.WaysMoved.{counted_made}
use Rattle.dh_control.proofs.leading.push_counted.Goals as goal

pub push_more-requires : goal.push_more-requires
push_more-requires c = wire_stays _ _ _ _ c.in_ok-none.ensures.grows (c.requires.wires.each c.args.counter c.requires.counter)

pub returns : goal.returns
returns c = counted_made _ _ _ _ _ c.in_ok-none.none c.in_ok-more.more c.in_ok-none.ensures c.in_ok-more.ensures
