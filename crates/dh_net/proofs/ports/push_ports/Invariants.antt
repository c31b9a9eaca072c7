use Rattle.std.proofs.Common.{◌≡◌, ◌++◌, ◌-◌}
use Rattle.dh_net.specs.BankPorts.{port_count, memory_ports}
use Rattle.dh_net.proofs.ports.push_ports.Given as goal

-- with those that are left the ports are all
abbrev pub invariant-loop-k : goal.invariant-loop-k
invariant-loop-k l =
    l.ports.items ++ memory_ports l.memory l.entry l.k (port_count l.entry - l.k) ≡ l.fn.ports.items ++ memory_ports l.memory l.entry 0 (port_count l.entry)
