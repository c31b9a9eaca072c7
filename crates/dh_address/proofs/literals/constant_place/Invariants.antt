-- The rest of the dimensions, from here, gives what all do from the start.
use Rattle.std.specs.Prelude.{◌≡◌, drop}
use Rattle.dh_address.specs.LiteralPlaces.{literal_places}
use Rattle.dh_address.proofs.literals.constant_place.Given as goal

abbrev pub invariant-loop-i : goal.invariant-loop-i
invariant-loop-i l = literal_places (drop l.i l.dims) (drop l.i l.indices) l.row l.bank ≡ literal_places l.dims l.indices 0 0
