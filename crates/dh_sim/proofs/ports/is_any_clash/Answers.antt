use Rattle.dh_sim.proofs.Places.{item_within}
use Rattle.dh_sim.proofs.ports.is_any_clash.Goals as goal

pub is_clash-requires : goal.is_clash-requires
is_clash-requires c =
    item_within c.args.net.now c.requires.valid _ c.loop-drivers.drivers-index _ c.drivers-item.result c.as_slice.result.now c.as_slice-drivers-items.ensures
    c.loop-drivers-test.true c.drivers-item.is c.as_slice.ensures c.requires.wires
