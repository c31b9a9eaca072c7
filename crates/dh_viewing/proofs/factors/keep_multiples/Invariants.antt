-- what is left leads to what all leads to
use Rattle.std.proofs.Common.{◌≡◌, true, drop}
use Rattle.dh_tree.specs.LeastBreach.{least_of}
use Rattle.dh_tree.specs.ViewFactors.{factors_breaches}
use Rattle.dh_viewing.specs.Finding.{factors_paired}
use Rattle.dh_viewing.proofs.factors.keep_multiples.Given as goal

abbrev pub invariant-loop-i : goal.invariant-loop-i
invariant-loop-i l =
    least_of l.kept (factors_breaches true l.parent (drop l.i (factors_paired l.by)) (drop l.i l.places) (drop l.i l.dims)) ≡ least_of l.fn.kept (factors_breaches true l.parent (factors_paired l.by) l.places l.dims)
