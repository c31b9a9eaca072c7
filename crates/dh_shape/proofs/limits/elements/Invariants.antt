use Rattle.std.proofs.Common.{drop}
use Rattle.dh_tree.specs.Tables.{elements_of}
use Rattle.dh_tree.specs.Excesses.{most_counted}
use Rattle.dh_shape.proofs.Counts.{Counting}
use Rattle.dh_shape.proofs.limits.elements.Given as goal

-- the rest times the count so far is the whole
abbrev pub invariant-loop-dim : goal.invariant-loop-dim
invariant-loop-dim l = Counting most_counted l.count (elements_of l.dims) (elements_of (drop l.dim-index l.dims))
