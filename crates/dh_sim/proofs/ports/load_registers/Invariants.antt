use Rattle.dh_sim.proofs.Loading.{LoadedBefore}
use Rattle.dh_sim.proofs.ports.load_registers.Given as goal

abbrev pub invariant-loop-i : goal.invariant-loop-i
invariant-loop-i l = LoadedBefore l.net.registers l.wires l.registers l.i
