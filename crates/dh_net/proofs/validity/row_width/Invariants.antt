use Rattle.std.proofs.Common.{ℕ, ◌≤◌, ◌<◌, ◌^◌}
use Rattle.dh_net.proofs.validity.row_width.Given as goal

abbrev pub invariant-loop-width : goal.invariant-loop-width
invariant-loop-width l = (w : ℕ) → 1 ≤ w → w < l.width → 2 ^ w < l.rows
