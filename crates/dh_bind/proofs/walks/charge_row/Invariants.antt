use Rattle.dh_bind.specs.Standings.{RowCharged}
use Rattle.dh_bind.proofs.walks.charge_row.Given as goal

abbrev pub invariant-loop-bank : goal.invariant-loop-bank
invariant-loop-bank l = RowCharged l.access l.memory l.bank l.initial.walker l.walker
