-- The elements so far times those of the rest.
use Rattle.std.specs.Prelude.{◌≡◌, ◌*◌, ◌%◌, ◌^◌, drop}
use Rattle.dh_tree.specs.Tables.{elements_of}
use Rattle.dh_address.proofs.ranging.element_total.Given as goal

abbrev pub invariant-loop-dim : goal.invariant-loop-dim
invariant-loop-dim l = l.count * elements_of (drop l.dim-index l.dims) % 2 ^ 64 ≡ elements_of l.dims % 2 ^ 64
