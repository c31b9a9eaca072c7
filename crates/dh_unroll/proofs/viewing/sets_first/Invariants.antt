-- The first banks have their sets.
use Rattle.dh_unroll.specs.ViewsListed.{SetsAlone}
use Rattle.dh_unroll.proofs.viewing.sets_first.Given as goal

abbrev pub invariant-loop-bank : goal.invariant-loop-bank
invariant-loop-bank l = SetsAlone l.view l.bank l.sets
