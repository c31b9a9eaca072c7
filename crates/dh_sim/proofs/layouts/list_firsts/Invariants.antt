use Rattle.std.proofs.Common.{drop}
use Rattle.dh_sim.proofs.Firsts.{Listing}
use Rattle.dh_sim.proofs.layouts.list_firsts.Given as goal

abbrev pub invariant-loop-entry : goal.invariant-loop-entry
invariant-loop-entry l = Listing l.firsts.items l.next l.table (drop l.entry-index l.table)
