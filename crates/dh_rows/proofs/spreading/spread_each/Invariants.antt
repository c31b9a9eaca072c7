-- The dimensions from here on, spread from here, give what all do from the start.
use Rattle.std.specs.Prelude.{◌≡◌, drop, None}
use Rattle.dh_rows.specs.MadeOperations.{all_spread}
use Rattle.dh_rows.proofs.spreading.spread_each.Given as goal

abbrev pub invariant-loop-i : goal.invariant-loop-i
invariant-loop-i l =
    all_spread l.list l.width (drop l.i l.dims) (drop l.i l.indices) l.banked l.so_far.row l.so_far.bank
    ≡ all_spread l.fn.list l.width l.dims l.indices l.banked None None
