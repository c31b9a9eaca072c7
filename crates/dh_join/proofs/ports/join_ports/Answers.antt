use Rattle.std.proofs.Common.{refl}
use Rattle.dh_join.proofs.PortsListed.{joining_starts, next_drives, joining_turn, joining_ends}
use Rattle.dh_join.proofs.ports.join_ports.Goals as goal

pub loop-i-init : goal.loop-i-init
loop-i-init c = joining_starts c.args.cells.now c.args.ports.now c.args.lists.now _ c.new-joined.ensures

pub join_port-requires : goal.join_port-requires
join_port-requires c =
    next_drives c.args.cells.now c.loop-i.cells c.args.ports.now c.args.lists.now c.loop-i.joined _ c.loop-i.i _ _ c.as_slice.result.now c.index-lists-i.result _ c.loop-i.invariant c.loop-i-test.true c.requires.long refl
    c.index-lists-i.is c.as_slice.ensures c.requires.drive

pub loop-i-preserved : goal.loop-i-preserved
loop-i-preserved c =
    joining_turn c.args.cells.now c.loop-i.cells c.join_port.new.cells c.args.ports.now c.args.lists.now c.loop-i.joined c.push.new.self c.loop-i.i _ _ c.as_slice.result.now c.index-lists-i.result _ c.in_ok-drivers.drivers
    c.loop-i.invariant c.loop-i-test.true c.requires.long refl c.index-lists-i.is c.as_slice.ensures c.in_ok-drivers.ensures c.in_ok-push.ensures

pub returns : goal.returns
returns c = joining_ends c.args.cells.now c.loop-i.cells c.args.ports.now c.args.lists.now c.loop-i.joined _ c.loop-i.i c.loop-i.invariant c.loop-i-test.false c.requires.long
