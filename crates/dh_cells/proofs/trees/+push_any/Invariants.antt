use Rattle.std.proofs.Common.{length}
use Rattle.dh_cells.proofs.trees.+push_any.Given as goal

abbrev pub decreases-push_any : goal.decreases-push_any
decreases-push_any l = length l.wires.now
