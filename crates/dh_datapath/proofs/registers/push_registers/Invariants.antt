use Rattle.dh_cells.specs.Settled.{Grows}
use Rattle.dh_datapath.specs.RegistersShown.{AreRegisterWires}
use Rattle.dh_datapath.proofs.registers.push_registers.Given as goal

abbrev pub invariant-loop-r : goal.invariant-loop-r
invariant-loop-r l = record {
  grows : Grows l.initial.circuit l.circuit;
  show : AreRegisterWires l.circuit l.offset l.kinds l.wires l.r;
}
