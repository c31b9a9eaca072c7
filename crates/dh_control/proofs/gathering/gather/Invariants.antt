-- What is gathered of each number so far, with what is still to come of it, is all.
use Rattle.std.proofs.Common.{drop}
use Rattle.dh_control.proofs.GatheredItems.{Gathering}
use Rattle.dh_control.proofs.gathering.gather.Given as goal

abbrev pub invariant-loop-entry : goal.invariant-loop-entry
invariant-loop-entry g l = Gathering l.count l.lists.items (drop l.entry-index l.entries) l.entries
