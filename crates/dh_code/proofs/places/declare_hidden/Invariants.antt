-- Those so far, and the rest, are all.
use Rattle.std.proofs.Common.{◌≡◌, ◌++◌, map, drop}
use Rattle.dh_code.specs.Placed.{hidden_as}
use Rattle.dh_code.proofs.places.declare_hidden.Given as goal

abbrev pub invariant-loop-one : goal.invariant-loop-one
invariant-loop-one l = l.list.items ++ map hidden_as (drop l.one-index l.hidden) ≡ l.fn.list.items ++ map hidden_as l.hidden
