-- The bits below, scaled from here, give what all do from the start.
use Rattle.std.specs.Prelude.{◌≡◌, None}
use Rattle.dh_rows.specs.MadeOperations.{bits_in, scaled_below}
use Rattle.dh_rows.proofs.scaling.push_scaled.Given as goal

abbrev pub invariant-loop-by : goal.invariant-loop-by
invariant-loop-by l = scaled_below l.list l.value l.factor l.by l.sum ≡ scaled_below l.fn.list l.value l.factor (bits_in l.factor) None
