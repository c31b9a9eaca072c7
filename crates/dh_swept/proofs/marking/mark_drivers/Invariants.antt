-- What is left to mark is all that was.
use Rattle.std.proofs.Common.{◌≡◌, drop}
use Rattle.dh_swept.specs.FoundWires.{with_marks}
use Rattle.dh_swept.specs.NeededCells.{drivers_wires}
use Rattle.dh_swept.proofs.marking.mark_drivers.Given as goal

abbrev pub invariant-loop-driver : goal.invariant-loop-driver
invariant-loop-driver l = with_marks (drivers_wires (drop l.driver-index l.drivers)) l.marks ≡ with_marks (drivers_wires l.drivers) l.fn.marks
