-- The loop stands behind those so far.
use Rattle.std.proofs.Common.{◌≡◌, ◌+◌, drop, Some}
use Rattle.dh_expressions.specs.ReachedBanks.{level_with}
use Rattle.dh_expressions.proofs.banks.level_of.Given as goal

abbrev pub invariant-loop-i : goal.invariant-loop-i
invariant-loop-i l = l.i + level_with (drop l.i l.levels) (Some l.entity) ≡ level_with l.levels (Some l.entity)
