-- What the rest has, all have.
use Rattle.std.specs.Prelude.{◌≡◌, drop}
use Rattle.std.specs.List.{list_any}
use Rattle.dh_address.specs.Pieces.{is_of_probe}
use Rattle.dh_address.proofs.probing.some_of_probe.Given as goal

abbrev pub invariant-loop-value : goal.invariant-loop-value
invariant-loop-value l = list_any (is_of_probe l.operations l.first) (drop l.value-index l.values) ≡ list_any (is_of_probe l.operations l.first) l.values
