use Rattle.dh_control.specs.WayMoves.{way_of_decision, way_weight}
use Rattle.dh_control.proofs.leading.+push_way.Given as goal

abbrev pub decreases-push_way : goal.decreases-push_way
decreases-push_way l = way_weight (way_of_decision l.way.now)
