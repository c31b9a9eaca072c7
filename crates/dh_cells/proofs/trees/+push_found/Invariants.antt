use Rattle.std.proofs.Common.{length}
use Rattle.dh_cells.proofs.trees.+push_found.Given as goal

abbrev pub decreases-push_found : goal.decreases-push_found
decreases-push_found l = length l.tests.now
