-- The rows so far times those of the rest.
use Rattle.std.specs.Prelude.{◌≡◌, ◌*◌, ◌%◌, ◌^◌, drop}
use Rattle.dh_tree.specs.Elements.{rows_of}
use Rattle.dh_address.proofs.ranging.row_count.Given as goal

abbrev pub invariant-loop-dim : goal.invariant-loop-dim
invariant-loop-dim l = l.count * rows_of (drop l.dim-index l.dims) % 2 ^ 64 ≡ rows_of l.dims % 2 ^ 64
