use Rattle.std.proofs.Common.{◌↔◌, drop}
use Rattle.dh_net.specs.BankPorts.{ports_from, ports_of}
use Rattle.dh_net.specs.Parts.{DrivePorts}
use Rattle.dh_net.proofs.validity.have_drivers.Given as goal

-- what is left is right where the whole is
abbrev pub invariant-loop-memory : goal.invariant-loop-memory
invariant-loop-memory l = DrivePorts l.cells (ports_from l.memory (drop l.memory l.table)) l.rest ↔ DrivePorts l.cells (ports_of l.table) l.drivers
