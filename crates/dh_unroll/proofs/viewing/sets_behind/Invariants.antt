-- The first banks have their sets, whatever stands behind.
use Rattle.dh_unroll.specs.ViewsListed.{SetsBehind}
use Rattle.dh_unroll.proofs.viewing.sets_behind.Given as goal

abbrev pub invariant-loop-bank : goal.invariant-loop-bank
invariant-loop-bank l = SetsBehind l.view l.parent l.bank l.sets
