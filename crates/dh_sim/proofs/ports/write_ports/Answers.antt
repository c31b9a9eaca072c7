use Rattle.dh_sim.proofs.Places.{item_within}
use Rattle.dh_sim.proofs.Serving.{port_placed, write_on}
use Rattle.dh_sim.proofs.ports.write_ports.Goals as goal

pub first_active-driver-requires : goal.first_active-driver-requires
first_active-driver-requires c =
    item_within c.args.net.now c.requires.valid c.as_slice-drivers-items.result.now c.loop-i.i _ c.drivers-item.result c.as_slice.result.now c.as_slice-drivers-items.ensures
    c.loop-i-test.true c.drivers-item.is c.as_slice.ensures c.requires.wires

pub write_row-requires-clause-placed : goal.write_row-requires-clause-placed
write_row-requires-clause-placed c =
    port_placed c.args.net.now c.requires.valid c.as_slice-table.result.now c.args.ports.now c.as_slice-drivers-items.result.now c.loop-i.i _ c.as_slice-table.ensures c.requires.ports
    c.as_slice-drivers-items.ensures c.loop-i-test.true

pub loop-i-preserved : goal.loop-i-preserved
loop-i-preserved c =
    write_on c.args.net.now c.requires.valid c.as_slice-table.result.now c.args.ports.now c.as_slice-drivers-items.result.now c.loop-i.i _ c.as_slice-table.ensures c.requires.ports
    c.as_slice-drivers-items.ensures c.loop-i-test.true c.args.wires.now c.drivers-item.result c.as_slice.result.now c.first_active-driver.result c.drivers-item.is c.as_slice.ensures
    c.first_active-driver.ensures.first _ _ _ c.write_row.ensures c.loop-i.invariant
