use Rattle.std.proofs.Common.{◌↔◌, ◌-◌, drop}
use Rattle.dh_net.specs.BankPorts.{port_count, memory_ports}
use Rattle.dh_net.specs.Parts.{DrivePorts}
use Rattle.dh_net.proofs.validity.drive_memory.Given as goal

-- what is left is right where the whole is
abbrev pub invariant-loop-k : goal.invariant-loop-k
invariant-loop-k l =
    DrivePorts l.cells (memory_ports l.memory l.entry l.k (port_count l.entry - l.k)) (drop l.k l.lists) ↔ DrivePorts l.cells (memory_ports l.memory l.entry 0 (port_count l.entry)) l.lists
