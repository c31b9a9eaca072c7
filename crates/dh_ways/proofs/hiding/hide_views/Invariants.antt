-- Those of the views so far, and those of the rest, are all.
use Rattle.std.proofs.Common.{◌≡◌, ◌+◌, ◌++◌, length, map, drop}
use Rattle.dh_ways.specs.Stands.{all_own, stand_seen}
use Rattle.dh_ways.proofs.hiding.hide_views.Given as goal

abbrev pub invariant-loop-view : goal.invariant-loop-view
invariant-loop-view l = l.hidden ++ all_own (l.fn.first + length l.hidden) (map stand_seen (drop l.view-index l.stood)) ≡ all_own l.fn.first (map stand_seen l.stood)
