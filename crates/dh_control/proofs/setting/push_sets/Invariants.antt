-- The sets of the operations from the index on are there.
use Rattle.std.proofs.Common.{drop}
use Rattle.dh_control.specs.RegisterSets.{SetsAdded}
use Rattle.dh_control.proofs.setting.push_sets.Given as goal

abbrev pub invariant-loop-i : goal.invariant-loop-i
invariant-loop-i l = SetsAdded l.fn.circuit l.circuit l.widths l.commit l.wires (drop l.i l.operations) l.fn.moves l.moves
