use Rattle.std.proofs.Common.{◌≡◌, ℕ, length, slice_index, take}
use Rattle.dh_ports.specs.Logs.{at_begin}
use Rattle.dh_ports.proofs.marks.undo_slice.Given as goal

abbrev pub invariant-loop-i : goal.invariant-loop-i
invariant-loop-i l =
    (length l.left ≡ length l.fn.left)
    × ((m : ℕ) → at_begin (take l.i l.log) m (slice_index l.left m) ≡ at_begin l.log m (slice_index l.fn.left m))
