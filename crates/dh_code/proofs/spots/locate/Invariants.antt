-- Where the indices so far lead.
use Rattle.dh_code.specs.Operated.{view_seen}
use Rattle.dh_code.proofs.Located.{LeadsSoFar}
use Rattle.dh_code.proofs.spots.locate.Given as goal

abbrev pub invariant-loop-i : goal.invariant-loop-i
invariant-loop-i l = LeadsSoFar l.dims (view_seen l.view) l.indices l.i l.spread
