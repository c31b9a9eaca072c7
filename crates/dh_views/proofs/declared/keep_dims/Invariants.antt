use Rattle.std.proofs.Common.{◌≡◌}
use Rattle.dh_views.proofs.KeptIndices.{dims_rest}
use Rattle.dh_views.proofs.declared.keep_dims.Given as goal

-- what is left leads to what all leads to
abbrev pub invariant-loop-i : goal.invariant-loop-i
invariant-loop-i l = dims_rest l.at l.kept l.dims l.places l.i ≡ dims_rest l.at l.fn.kept l.dims l.places 0
