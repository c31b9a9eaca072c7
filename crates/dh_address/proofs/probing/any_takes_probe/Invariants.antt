-- What the rest has, all have.
use Rattle.std.specs.Prelude.{◌≡◌, drop}
use Rattle.dh_address.specs.Pieces.{takes_probe}
use Rattle.std.specs.List.{list_any}
use Rattle.dh_address.proofs.probing.any_takes_probe.Given as goal

abbrev pub invariant-loop-operation : goal.invariant-loop-operation
invariant-loop-operation l =
    list_any (takes_probe l.operations l.first) (drop l.operation-index l.operations) ≡ list_any (takes_probe l.operations l.first) l.operations
