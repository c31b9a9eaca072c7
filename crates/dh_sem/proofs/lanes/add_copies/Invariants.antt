use Rattle.std.proofs.Common.{◌≡◌, ◌++◌, length}
use Rattle.dh_code.specs.Rows.{contents_of}
use Rattle.dh_sem.specs.Lanes.{row_copies}
use Rattle.dh_sem.proofs.lanes.add_copies.Given as goal

abbrev pub invariant-loop : goal.invariant-loop
invariant-loop l = contents_of l.rows.items ≡ contents_of l.fn.rows.items ++ row_copies (length l.fn.rows.items) l.row l.counter
