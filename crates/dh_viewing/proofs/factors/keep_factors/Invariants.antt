-- what is left leads to what all leads to
use Rattle.std.proofs.Common.{◌≡◌, drop}
use Rattle.dh_tree.specs.LeastBreach.{least_of}
use Rattle.dh_tree.specs.ViewFactors.{factors_breaches}
use Rattle.dh_viewing.proofs.factors.keep_factors.Given as goal

abbrev pub invariant-loop-i : goal.invariant-loop-i
invariant-loop-i l =
    least_of l.kept (factors_breaches l.multiplies l.parent (drop l.i l.factors) (drop l.i l.places) (drop l.i l.dims)) ≡ least_of l.fn.kept (factors_breaches l.multiplies l.parent l.factors l.places l.dims)
