use Rattle.std.proofs.Common.{length}
use Rattle.dh_parser.proofs.parsing.rooms.indices_in_sight.Given as goal

abbrev pub decreases-loop-rest : goal.decreases-loop-rest
decreases-loop-rest l = length l.rest
