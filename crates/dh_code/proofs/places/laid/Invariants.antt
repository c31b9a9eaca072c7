-- Those so far have their slots, at most so many each.
use Rattle.std.proofs.Common.{◌*◌, ◌≤◌}
use Rattle.dh_base.specs.Limits.{most_copies}
use Rattle.dh_code.proofs.Declaring.{Lays}
use Rattle.dh_code.proofs.places.laid.Given as goal

abbrev pub invariant-loop-variable : goal.invariant-loop-variable
invariant-loop-variable l = Lays l.found l.variable-index l.places.items l.count × (l.count ≤ most_copies * l.variable-index)
