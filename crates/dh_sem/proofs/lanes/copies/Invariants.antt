use Rattle.std.proofs.Common.{◌≡◌, ◌++◌, drop, length}
use Rattle.dh_code.specs.Rows.{contents_of}
use Rattle.dh_sem.specs.Lanes.{copied_rows}
use Rattle.dh_sem.proofs.lanes.copies.Given as goal

abbrev pub invariant-loop-row : goal.invariant-loop-row
invariant-loop-row l = contents_of l.rows.items ++ copied_rows (length l.rows.items) l.factor (contents_of (drop l.row-index l.outer)) ≡ copied_rows 0 l.factor (contents_of l.outer)
