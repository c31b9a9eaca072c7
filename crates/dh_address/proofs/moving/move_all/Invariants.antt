-- The rest of the dimensions, from here, gives what all do from the start.
use Rattle.std.specs.Prelude.{◌≡◌, drop}
use Rattle.dh_address.specs.WaysMade.{moved_all, way}
use Rattle.dh_address.proofs.moving.move_all.Given as goal

abbrev pub invariant-loop-i : goal.invariant-loop-i
invariant-loop-i l =
    moved_all (drop l.i l.dims) (drop l.i l.factors) (drop l.i l.offsets) (drop l.i l.indices) (way l.list l.ranges l.moved)
    ≡ moved_all l.dims l.factors l.offsets l.indices (way l.fn.list l.fn.ranges l.fn.moved)
