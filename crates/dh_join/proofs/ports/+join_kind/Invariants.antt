use Rattle.std.proofs.Common.{length}
use Rattle.dh_join.proofs.ports.+join_kind.Given as goal

abbrev pub decreases-join_kind : goal.decreases-join_kind
decreases-join_kind l = length l.drivers.now
