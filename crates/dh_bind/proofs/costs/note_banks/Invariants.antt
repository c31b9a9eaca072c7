use Rattle.std.proofs.Common.{◌*◌, take}
use Rattle.dh_bind.specs.Costs.{Raised}
use Rattle.dh_bind.proofs.costs.note_banks.Given as goal

abbrev pub invariant-loop-listed : goal.invariant-loop-listed
invariant-loop-listed l = Raised (l.reach.access * l.wide) l.wide (take l.listed-index l.reach.banks) l.initial.counts l.counts
