use Rattle.std.proofs.lemmas.Result.{IfOk-weaker}
use Rattle.dh_join.proofs.DriversStand.{drives_later}
use Rattle.dh_join.proofs.PortsListed.{both_joined}
use Rattle.dh_join.proofs.ports.join_both.Goals as goal

pub join_kind-requires-2 : goal.join_kind-requires-2
join_kind-requires-2 c = drives_later _ _ c.args.port c.args.drivers.now c.in_ok-read.ensures.grows.begins c.requires

pub returns : goal.returns
returns c =
    IfOk-weaker c.list_found.result _ _ (λ joined is. both_joined _ _ _ c.args.port c.args.drivers.now c.in_ok-read.read c.in_ok-write.write joined is c.in_ok-read.ensures c.in_ok-write.ensures)
    c.list_found.ensures
