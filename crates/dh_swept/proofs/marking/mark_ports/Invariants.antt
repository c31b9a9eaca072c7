-- What is left to mark is all that was.
use Rattle.std.proofs.Common.{◌≡◌, drop}
use Rattle.dh_swept.specs.FoundWires.{with_marks}
use Rattle.dh_swept.specs.NeededCells.{all_drivers_wires}
use Rattle.dh_swept.proofs.marking.mark_ports.Given as goal

abbrev pub invariant-loop-list : goal.invariant-loop-list
invariant-loop-list l = with_marks (all_drivers_wires (drop l.list-index l.lists)) l.marks ≡ with_marks (all_drivers_wires l.lists) l.fn.marks
