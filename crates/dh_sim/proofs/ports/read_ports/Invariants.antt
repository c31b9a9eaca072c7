use Rattle.std.proofs.Common.{◌≡◌, ◌++◌, take, drop}
use Rattle.dh_net.specs.Clock.{held_after}
use Rattle.dh_sim.specs.Points.{lists_of}
use Rattle.dh_sim.proofs.ports.read_ports.Given as goal

-- what was read, with what is left to read
abbrev pub invariant-loop-i : goal.invariant-loop-i
invariant-loop-i l =
    take l.i l.held ++ held_after l.net.table l.wires (drop l.i l.net.drivers) (drop l.i l.ports) (lists_of l.memories) (drop l.i l.held)
    ≡ held_after l.net.table l.wires l.net.drivers l.ports (lists_of l.memories) l.fn.held
