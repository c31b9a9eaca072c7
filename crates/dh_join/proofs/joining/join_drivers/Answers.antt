use Rattle.std.proofs.Common.{refl}
use Rattle.dh_join.proofs.PortsListed.{small_as, net_long, net_drives, net_driven}
use Rattle.dh_join.proofs.SameRuns.{is_joined}
use Rattle.dh_join.proofs.joining.join_drivers.Goals as goal

pub drive_ports-requires-clause-small : goal.drive_ports-requires-clause-small
drive_ports-requires-clause-small c = small_as c.args.net.table c.as_slice.result.now c.as_slice.ensures c.requires.table

pub drive_ports-requires-clause-long : goal.drive_ports-requires-clause-long
drive_ports-requires-clause-long c = net_long c.args.net c.requires c.as_slice.result.now c.as_slice-2.result.now c.as_slice.ensures c.as_slice-2.ensures

pub drive_ports-requires-clause-drive : goal.drive_ports-requires-clause-drive
drive_ports-requires-clause-drive c = net_drives c.args.net c.requires c.as_slice.result.now c.as_slice-2.result.now c.as_slice.ensures c.as_slice-2.ensures _ refl

pub returns : goal.returns
returns c =
    is_joined c.args.net _ (record {
      valid = c.requires;
      table = refl;
      faults = refl;
      registers = refl;
      tick = refl;
      done = refl;
      fault = refl;
      joined = net_driven c.args.net c.requires c.as_slice.result.now c.as_slice-2.result.now c.as_slice.ensures c.as_slice-2.ensures _ _ _ refl c.in_ok-drivers.ensures;
    })
