use Rattle.std.proofs.Common.{◌∙◌}
use Rattle.dh_sem.proofs.starting.hold_first.Goals as goal

pub hold_placed-requires-clause-places : goal.hold_placed-requires-clause-places
hold_placed-requires-clause-places c = c.as_slice.ensures.value ∙ c.in_ok-places.ensures.held_are

pub hold_placed-requires-clause-lanes : goal.hold_placed-requires-clause-lanes
hold_placed-requires-clause-lanes c = c.requires.none.first_lanes

pub hold_placed-requires-clause-sound : goal.hold_placed-requires-clause-sound
hold_placed-requires-clause-sound c = c.requires.none.sound _

pub returns-in-Ok : goal.returns-in-Ok
returns-in-Ok c = (c.in-Ok.ensures, c.in_ok-places.ensures.count_is)
