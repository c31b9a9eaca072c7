use Rattle.dh_net.proofs.PortWalks.{pushed_ports}
use Rattle.dh_net.proofs.ports.list_ports.Goals as goal

pub loop-memory-preserved : goal.loop-memory-preserved
loop-memory-preserved c =
    pushed_ports c.loop-memory.ports.items c.push_ports.new.ports.items c.args.table.now c.loop-memory.memory c.index-table-memory.result _ c.loop-memory-test.true c.index-table-memory.is
    c.in_ok-push_ports.ensures c.loop-memory.invariant
