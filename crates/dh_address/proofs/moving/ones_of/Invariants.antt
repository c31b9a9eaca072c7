-- The factors so far, and those of the rest.
use Rattle.std.specs.Prelude.{◌≡◌, ◌++◌, drop}
use Rattle.dh_address.specs.WaysMade.{unit_factors}
use Rattle.dh_address.proofs.moving.ones_of.Given as goal

abbrev pub invariant-loop-dim : goal.invariant-loop-dim
invariant-loop-dim l = l.factors ++ unit_factors (drop l._dim-index l.dims) ≡ unit_factors l.dims
