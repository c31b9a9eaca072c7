-- The registers before the index are kept.
use Rattle.dh_swept.specs.KeptCells.{AreKeptItems, new_number_in}
use Rattle.dh_swept.specs.RenamedWires.{renamed_register}
use Rattle.dh_swept.proofs.keeping.keep_registers.Given as goal

abbrev pub invariant-loop-j : goal.invariant-loop-j
invariant-loop-j l = AreKeptItems l.j (renamed_register (new_number_in l.to)) l.at l.registers l.kept
