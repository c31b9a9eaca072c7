use Rattle.std.proofs.Common.{◌≡◌, drop}
use Rattle.dh_ports.specs.Copies.{stride_in}
use Rattle.dh_ports.proofs.copies.stride_of.Given as goal

abbrev pub invariant-loop-level : goal.invariant-loop-level
invariant-loop-level l = stride_in (drop l.level-index l.levels) l.left l.stride ≡ stride_in l.levels l.fn.loops l.fn.count
