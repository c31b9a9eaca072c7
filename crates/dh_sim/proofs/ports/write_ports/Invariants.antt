use Rattle.std.proofs.Common.{◌≡◌, drop}
use Rattle.dh_net.specs.Clock.{memories_after}
use Rattle.dh_sim.specs.Points.{lists_of}
use Rattle.dh_sim.proofs.ports.write_ports.Given as goal

-- with what is left to write the memories are as all ports leave them
abbrev pub invariant-loop-i : goal.invariant-loop-i
invariant-loop-i l =
    memories_after l.net.table l.wires (drop l.i l.net.drivers) (drop l.i l.ports) (lists_of l.memories)
    ≡ memories_after l.net.table l.wires l.net.drivers l.ports (lists_of l.fn.memories)
