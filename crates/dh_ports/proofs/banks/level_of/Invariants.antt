use Rattle.std.proofs.Common.{◌≡◌, ◌+◌, drop, Some}
use Rattle.dh_meets.specs.Charges.{level_of_loop}
use Rattle.dh_ports.proofs.banks.level_of.Given as goal

abbrev pub invariant-loop-level : goal.invariant-loop-level
invariant-loop-level l = l.level + level_of_loop (drop l.level l.loops) (Some l.iterator') ≡ level_of_loop l.loops (Some l.iterator')
