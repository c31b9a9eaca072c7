-- The blocks below the index have their wires.
use Rattle.dh_control.specs.StateWires.{wait_of}
use Rattle.dh_control.specs.WireLists.{EachTells}
use Rattle.dh_control.proofs.standing.push_waits.Given as goal

abbrev pub invariant-loop-i : goal.invariant-loop-i
invariant-loop-i l = EachTells l.fn.circuit l.circuit (wait_of l.clock l.active l.lengths) l.i l.waits
