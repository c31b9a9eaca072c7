-- Those so far, and the rest, are all.
use Rattle.std.proofs.Common.{◌≡◌, ◌++◌, drop}
use Rattle.dh_ways.proofs.hiding.append.Given as goal

abbrev pub invariant-loop-one : goal.invariant-loop-one
invariant-loop-one l = l.hidden ++ drop l.one-index l.more ≡ l.fn.hidden ++ l.more
