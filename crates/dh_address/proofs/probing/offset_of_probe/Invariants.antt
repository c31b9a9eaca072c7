-- What the rest has, all have.
use Rattle.std.specs.Prelude.{◌≡◌, drop}
use Rattle.std.specs.List.{list_any}
use Rattle.dh_plan.specs.Ordered.{offsets_taken}
use Rattle.dh_address.specs.Pieces.{is_of_probe}
use Rattle.dh_address.proofs.probing.offset_of_probe.Given as goal

abbrev pub invariant-loop-step : goal.invariant-loop-step
invariant-loop-step l =
    list_any (is_of_probe l.operations l.first) (offsets_taken (drop l.step-index l.steps)) ≡ list_any (is_of_probe l.operations l.first) (offsets_taken l.steps)
