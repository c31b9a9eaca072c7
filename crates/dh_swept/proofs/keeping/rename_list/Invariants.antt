use Rattle.std.proofs.Common.{◌≡◌, ◌++◌, drop}
use Rattle.dh_swept.specs.KeptCells.{new_number_in}
use Rattle.dh_swept.specs.RenamedWires.{renamed_drivers}
use Rattle.dh_swept.proofs.keeping.rename_list.Given as goal

abbrev pub invariant-loop-driver : goal.invariant-loop-driver
invariant-loop-driver l = l.renamed ++ renamed_drivers (new_number_in l.to) (drop l.driver-index l.drivers) ≡ renamed_drivers (new_number_in l.to) l.drivers
