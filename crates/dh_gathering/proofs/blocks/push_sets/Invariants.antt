-- Whatever is set from here on, all is set from the begin.
use Rattle.dh_gathering.proofs.LoggedSets.{SetsFrom}
use Rattle.dh_gathering.proofs.blocks.push_sets.Given as goal

abbrev pub invariant-loop-i : goal.invariant-loop-i
invariant-loop-i l = SetsFrom l.fn.building.values.log.items l.i l.fn.building l.building
