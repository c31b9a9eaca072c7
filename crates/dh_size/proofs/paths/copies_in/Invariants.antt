use Rattle.std.proofs.Common.{drop}
use Rattle.dh_size.proofs.PathTurns.{CopiesLeft}
use Rattle.dh_size.proofs.paths.copies_in.Given as goal

abbrev pub invariant-loop-counter : goal.invariant-loop-counter
invariant-loop-counter l = CopiesLeft l.loops (drop l.counter-index l.loops) l.copies
