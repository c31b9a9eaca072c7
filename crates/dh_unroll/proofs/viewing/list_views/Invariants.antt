-- The first views are listed.
use Rattle.std.proofs.Common.{map}
use Rattle.dh_ways.specs.Seen.{led_seen}
use Rattle.dh_unroll.specs.ViewsListed.{ListsFirst}
use Rattle.dh_unroll.proofs.viewing.list_views.Given as goal

abbrev pub invariant-loop-place : goal.invariant-loop-place
invariant-loop-place l = ListsFirst (map led_seen l.ways) l.place l.views l.through.items
