-- With what is left of the log each slot has the least that the lows and the log together say from the start.
use Rattle.std.proofs.Common.{◌≡◌, ℕ, ◌++◌, drop}
use Rattle.dh_ports.specs.Logs.{least, marks_now, AreSlotMarks}
use Rattle.dh_ports.proofs.marks.note_lows.Given as goal

abbrev pub invariant-loop-mark : goal.invariant-loop-mark
invariant-loop-mark l =
    ((m x : ℕ) → least (l.lows.items ++ marks_now l.left (drop l.mark-index l.log)) m x ≡ least (l.fn.lows.items ++ marks_now l.left l.log) m x)
    × ((n : ℕ) → AreSlotMarks n l.log → AreSlotMarks n l.fn.lows.items → AreSlotMarks n l.lows.items)
