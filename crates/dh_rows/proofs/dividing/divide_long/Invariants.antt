-- The bits below, divided from here, give what all do from the start.
use Rattle.std.specs.Prelude.{◌≡◌, None}
use Rattle.dh_rows.specs.MadeOperations.{taken_below}
use Rattle.dh_rows.proofs.dividing.divide_long.Given as goal

abbrev pub invariant-loop-by : goal.invariant-loop-by
invariant-loop-by l = taken_below l.list l.width l.banks l.by l.so_far.quotient l.so_far.rest ≡ taken_below l.fn.list l.width l.banks l.length None l.value
