use Rattle.std.proofs.Common.{◌↔◌, drop}
use Rattle.std.specs.List.{AllByRecursion}
use Rattle.dh_tree.specs.Shapes.{IsDim}
use Rattle.dh_net.proofs.tables.are_dims.Given as goal

abbrev pub invariant-loop-dim : goal.invariant-loop-dim
invariant-loop-dim l = AllByRecursion IsDim (drop l.dim-index l.dims) ↔ AllByRecursion IsDim l.dims
