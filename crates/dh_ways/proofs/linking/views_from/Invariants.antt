-- The views so far, and those from the next place on, are all.
use Rattle.std.proofs.Common.{map}
use denote.Ref.{Bor}
use Rattle.dh_tree.specs.declared.viewing.ViewMap.{ViewMap}
use Rattle.dh_ways.proofs.LinksTold.{ViewsSoFar, places_left}
use Rattle.dh_ways.proofs.linking.views_from.Given as goal

abbrev pub invariant-loop-next : goal.invariant-loop-next
invariant-loop-next l = ViewsSoFar l.links l.place (map (λ (v : Bor ViewMap). v.now) l.views.items) l.next

abbrev pub decreases-loop-next : goal.decreases-loop-next
decreases-loop-next l = places_left l.next
