-- The variables so far, and those from the next place on, are all.
use Rattle.dh_ways.proofs.LinksTold.{HiddenSoFar, places_left}
use Rattle.dh_ways.proofs.linking.hidden_from.Given as goal

abbrev pub invariant-loop-next : goal.invariant-loop-next
invariant-loop-next l = HiddenSoFar l.links l.place l.hidden l.next

abbrev pub decreases-loop-next : goal.decreases-loop-next
decreases-loop-next l = places_left l.next
