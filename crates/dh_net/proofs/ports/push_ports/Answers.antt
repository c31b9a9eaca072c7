use Rattle.std.proofs.Common.{ℕ, ◌<◌, subst}
use Rattle.dh_net.specs.BankPorts.{port_count}
use Rattle.dh_net.proofs.PortWalks.{pushed_port}
use Rattle.dh_net.proofs.ports.push_ports.Goals as goal

pub loop-k-preserved : goal.loop-k-preserved
loop-k-preserved c =
    pushed_port c.loop-k.ports.items c.push.new.self.items c.args.memory c.args.entry.now c.loop-k.k (port_count c.args.entry.now) c.memory_port.result _
    (subst (λ (n : ℕ). c.loop-k.k < n) c.count_ports-k-end.ensures.is c.loop-k-test.true) c.in_ok-push.ensures.items c.memory_port.ensures c.loop-k.invariant
