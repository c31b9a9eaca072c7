use Rattle.std.proofs.Common.{drop}
use Rattle.dh_size.proofs.PathTurns.{CopyLeft}
use Rattle.dh_size.proofs.paths.copy_at.Given as goal

abbrev pub invariant-loop-counter : goal.invariant-loop-counter
invariant-loop-counter l = CopyLeft l.loops (drop l.counter-index l.loops) l.number l.fn.iterator l.stride
