-- The banks so far times those of the rest.
use Rattle.std.specs.Prelude.{◌≡◌, ◌*◌, ◌%◌, ◌^◌, drop}
use Rattle.dh_tree.specs.Elements.{banks_of}
use Rattle.dh_address.proofs.ranging.bank_total.Given as goal

abbrev pub invariant-loop-dim : goal.invariant-loop-dim
invariant-loop-dim l = l.count * banks_of (drop l.dim-index l.dims) % 2 ^ 64 ≡ banks_of l.dims % 2 ^ 64
