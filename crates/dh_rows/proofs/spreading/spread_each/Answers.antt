use Rattle.dh_rows.proofs.TurnsOfBits.{spread_done}
use Rattle.dh_rows.proofs.spreading.spread_each.Goals as goal

pub returns : goal.returns
returns c =
    spread_done c.loop-i.list c.args.width c.args.dims.now c.args.indices.now c.args.banked c.loop-i.so_far.row c.loop-i.so_far.bank c.loop-i.i c.min-i-end.result _
    c.min-i-end.ensures c.loop-i-test.false c.loop-i.invariant
