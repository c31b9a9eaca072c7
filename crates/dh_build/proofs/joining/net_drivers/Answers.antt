use Rattle.dh_build.proofs.JoinedParts.{small_memories}
use Rattle.dh_build.proofs.joining.net_drivers.Goals as goal

pub list_ports-requires : goal.list_ports-requires
list_ports-requires c = small_memories c.args.plan.now.table c.as_slice.result.now c.as_slice.ensures c.requires
