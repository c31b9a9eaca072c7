-- The cells before the index are kept.
use Rattle.dh_swept.specs.KeptCells.{AreKeptItems, new_number_in}
use Rattle.dh_swept.specs.RenamedWires.{renamed_cell}
use Rattle.dh_swept.proofs.keeping.keep_cells.Given as goal

abbrev pub invariant-loop-j : goal.invariant-loop-j
invariant-loop-j l = AreKeptItems l.j (renamed_cell (new_number_in l.to) (new_number_in l.to_register)) l.at l.cells l.kept
