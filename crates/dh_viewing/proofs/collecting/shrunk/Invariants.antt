-- Those so far, and those of the rest, are all.
use Rattle.std.proofs.Common.{◌≡◌, ◌++◌, drop}
use Rattle.dh_tree.specs.Views.{shrunk_dims}
use Rattle.dh_viewing.proofs.collecting.shrunk.Given as goal

abbrev pub invariant-loop-i : goal.invariant-loop-i
invariant-loop-i l = l.all ++ shrunk_dims (drop l.i l.factors) (drop l.i l.dims) ≡ shrunk_dims l.factors l.dims
