use Rattle.std.proofs.lemmas.Result.{IfOk-weaker}
use Rattle.dh_join.proofs.PortsListed.{lists_long, lists_drive, lists_joined}
use Rattle.dh_join.proofs.joining.drive_ports.Goals as goal

pub join_ports-requires-clause-long : goal.join_ports-requires-clause-long
join_ports-requires-clause-long c =
    lists_long c.args.table.now c.in_ok-ports.ports.items c.as_slice-listed.result.now c.args.lists.now c.in_ok-ports.ensures c.as_slice-listed.ensures.value c.requires.long

pub join_ports-requires-clause-drive : goal.join_ports-requires-clause-drive
join_ports-requires-clause-drive c =
    lists_drive c.args.table.now c.in_ok-ports.ports.items c.as_slice-listed.result.now c.args.lists.now c.in_ok-ports.ensures c.as_slice-listed.ensures.value _ c.requires.drive

pub returns : goal.returns
returns c =
    IfOk-weaker c.join_ports.result _ _
    (λ joined h. lists_joined c.args.table.now c.in_ok-ports.ports.items c.as_slice-listed.result.now c.args.lists.now c.in_ok-ports.ensures c.as_slice-listed.ensures.value _ _ joined h)
    c.join_ports.ensures
