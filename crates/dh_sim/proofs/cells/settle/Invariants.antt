use Rattle.dh_sim.proofs.Settling.{HoldsBefore}
use Rattle.dh_sim.proofs.cells.settle.Given as goal

abbrev pub invariant-loop-i : goal.invariant-loop-i
invariant-loop-i l = HoldsBefore l.net l.registers l.held l.wires l.i
