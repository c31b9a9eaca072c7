use Rattle.dh_ports.proofs.LevelTurns.{LevelsSoFar}
use Rattle.dh_ports.proofs.copies.paths_in.Given as goal

abbrev pub invariant-loop-level : goal.invariant-loop-level
invariant-loop-level l = LevelsSoFar l.scopes l.loops l.access l.writes l.level l.levels.items l.count l.keys
