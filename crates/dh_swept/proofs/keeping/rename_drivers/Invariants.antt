use Rattle.std.proofs.Common.{◌≡◌, ◌++◌, drop, map}
use Rattle.dh_swept.specs.KeptCells.{new_number_in}
use Rattle.dh_swept.specs.RenamedWires.{renamed_drivers}
use Rattle.dh_swept.proofs.keeping.rename_drivers.Given as goal

abbrev pub invariant-loop-list : goal.invariant-loop-list
invariant-loop-list l =
    l.renamed ++ map (renamed_drivers (new_number_in l.to)) (drop l.list-index l.lists) ≡ map (renamed_drivers (new_number_in l.to)) l.lists
