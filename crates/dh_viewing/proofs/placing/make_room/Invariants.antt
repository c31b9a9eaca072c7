-- There is room for as many more, and the same is told.
use Rattle.std.proofs.Common.{◌≡◌, ◌+◌, length}
use Rattle.dh_viewing.specs.Placed.{TellTheSame}
use Rattle.dh_viewing.proofs.placing.make_room.Given as goal

abbrev pub invariant-loop : goal.invariant-loop
invariant-loop l = (length l.places.items ≡ length l.fn.places.items + l.counter) × TellTheSame l.fn.places.items l.places.items
