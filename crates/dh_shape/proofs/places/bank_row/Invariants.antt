use Rattle.std.specs.Iterator.Adapters.{zip_first, zip_second}
use Rattle.std.specs.Slice.Iter.{iter_rest}
use Rattle.dh_shape.proofs.Spots.{Going}
use Rattle.dh_shape.proofs.places.bank_row.Given as goal

-- what stands behind the dimensions that were gone through
abbrev pub invariant-loop-dim : goal.invariant-loop-dim
invariant-loop-dim l = Going l.shape.dims l.index l.bank l.row (iter_rest (zip_first l.dim-iterator)) (iter_rest (zip_second l.dim-iterator))
