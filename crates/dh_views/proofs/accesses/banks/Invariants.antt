use Rattle.std.proofs.Common.{drop}
use Rattle.dh_tree.specs.Elements.{banks_of}
use Rattle.dh_shape.proofs.Counts.{Counting}
use Rattle.dh_views.specs.Kept.{number_bound}
use Rattle.dh_views.proofs.accesses.banks.Given as goal

-- the rest times the count so far is the whole
abbrev pub invariant-loop-dim : goal.invariant-loop-dim
invariant-loop-dim l = Counting number_bound l.count (banks_of l.dims) (banks_of (drop l.dim-index l.dims))
