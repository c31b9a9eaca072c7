use Rattle.dh_net.proofs.PortWalks.{small_memories}
use Rattle.dh_sim.proofs.layouts.Layout.new.Goals as goal

pub list_ports-requires : goal.list_ports-requires
list_ports-requires c = small_memories c.args.table.now c.requires
