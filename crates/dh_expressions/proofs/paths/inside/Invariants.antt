-- The loops so far, and those to come, are spread.
use Rattle.std.proofs.Common.{◌≡◌, ◌++◌, drop, map}
use Rattle.dh_expressions.specs.Levels.{spread_level}
use Rattle.dh_expressions.proofs.paths.inside.Given as goal

abbrev pub invariant-loop-level : goal.invariant-loop-level
invariant-loop-level l = l.levels.items ++ map (spread_level l.factor) (drop l.level-index l.level-items) ≡ map (spread_level l.factor) l.outer.levels.items
