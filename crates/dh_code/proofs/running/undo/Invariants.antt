use Rattle.std.proofs.Common.{◌≡◌, take}
use Rattle.dh_code.specs.States.{undone_slots}
use Rattle.dh_code.proofs.running.undo.Given as goal

abbrev pub invariant-loop-i : goal.invariant-loop-i
invariant-loop-i l = undone_slots (take l.i l.changes) l.variables ≡ undone_slots l.changes l.fn.variables
