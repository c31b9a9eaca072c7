use Rattle.std.proofs.Common.{◌≡◌, ◌++◌, drop}
use Rattle.dh_net.specs.BankPorts.{ports_from, ports_of}
use Rattle.dh_net.proofs.ports.list_ports.Given as goal

-- with those that are left the ports are all
abbrev pub invariant-loop-memory : goal.invariant-loop-memory
invariant-loop-memory l = l.ports.items ++ ports_from l.memory (drop l.memory l.table) ≡ ports_of l.table
