-- The sum so far and that of the loops to come are the whole sum, in 64 bits.
use Rattle.std.proofs.Common.{◌≡◌, ◌<◌, ◌+◌, ◌-◌, ◌^◌, drop}
use Rattle.std.specs.Prelude.{min}
use Rattle.dh_expressions.specs.Levels.{is_counted_level, parts_from}
use Rattle.dh_expressions.proofs.paths.leader_of.Given as goal

abbrev pub invariant-loop-i : goal.invariant-loop-i
invariant-loop-i l = record {
  small : l.leader < 2 ^ 64;
  sum : min (l.leader + parts_from (drop l.i l.levels) (is_counted_level l.counts) l.i l.number) (2 ^ 64 - 1) ≡ min (parts_from l.levels (is_counted_level l.counts) 0 l.number) (2 ^ 64 - 1);
}
