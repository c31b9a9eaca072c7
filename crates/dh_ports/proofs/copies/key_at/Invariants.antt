use Rattle.std.proofs.Common.{◌≡◌, ◌+◌, drop}
use Rattle.dh_ports.specs.Copies.{key_of_levels}
use Rattle.dh_ports.proofs.copies.key_at.Given as goal

abbrev pub invariant-loop-level : goal.invariant-loop-level
invariant-loop-level l = l.key + key_of_levels (drop l.level-index l.levels) l.number ≡ key_of_levels l.levels l.number
