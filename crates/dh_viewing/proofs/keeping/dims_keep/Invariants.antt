use Rattle.std.proofs.Common.{◌≡◌, drop}
use Rattle.dh_tree.specs.Indices.{dims_keep}
use Rattle.dh_viewing.proofs.keeping.dims_keep.Given as goal

-- those so far break none
abbrev pub invariant-loop-dim : goal.invariant-loop-dim
invariant-loop-dim l = dims_keep (drop l.dim-index l.dims) ≡ dims_keep l.dims
