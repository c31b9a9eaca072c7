-- The rest of the views, from here, gives what all do from the start.
use Rattle.std.specs.Prelude.{◌≡◌, drop}
use Rattle.dh_address.specs.SeenAround.{around_seen}
use Rattle.dh_address.specs.WaysMade.{steps_passed, way}
use Rattle.dh_address.proofs.passing.pass_steps.Given as goal

abbrev pub invariant-loop-step : goal.invariant-loop-step
invariant-loop-step l =
    steps_passed (around_seen l.old l.known) (drop l.step-index l.steps) (way l.list l.ranges l.inner)
    ≡ steps_passed (around_seen l.old l.known) l.steps (way l.fn.list l.fn.ranges l.fn.indices)
