use Rattle.dh_sim.proofs.Places.{item_within}
use Rattle.dh_sim.proofs.Serving.{port_placed, read_on}
use Rattle.std.proofs.Common.{◌∙◌}
use Rattle.dh_sim.proofs.ports.read_ports.Goals as goal

pub first_active-driver-requires : goal.first_active-driver-requires
first_active-driver-requires c =
    item_within c.args.net.now c.requires.valid c.as_slice-drivers-items.result.now c.loop-i.i _ c.drivers-item.result c.as_slice.result.now c.as_slice-drivers-items.ensures
    c.loop-i-test.true c.drivers-item.is c.as_slice.ensures c.requires.wires

pub held_datum-datum-requires-clause-placed : goal.held_datum-datum-requires-clause-placed
held_datum-datum-requires-clause-placed c =
    port_placed c.args.net.now c.requires.valid c.as_slice-table.result.now c.args.ports.now c.as_slice-drivers-items.result.now c.loop-i.i _ c.as_slice-table.ensures c.requires.ports
    c.as_slice-drivers-items.ensures c.loop-i-test.true

pub loop-i-preserved : goal.loop-i-preserved
loop-i-preserved c =
    read_on c.args.net.now c.requires.valid c.as_slice-table.result.now c.args.ports.now c.as_slice-drivers-items.result.now c.loop-i.i _ c.as_slice-table.ensures c.requires.ports
    c.as_slice-drivers-items.ensures c.loop-i-test.true c.args.wires.now c.drivers-item.result c.as_slice.result.now c.first_active-driver.result c.drivers-item.is c.as_slice.ensures
    c.first_active-driver.ensures.first _ c.loop-i.held c.held_datum-datum.result _ (c.loop-i.auto.held ∙ c.requires.held) c.held_datum-datum.ensures c.loop-i.invariant
