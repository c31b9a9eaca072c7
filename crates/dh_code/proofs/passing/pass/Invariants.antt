-- The indices so far pass through the views so far.
use Rattle.dh_viewing.specs.Numbers.{numbers_in}
use Rattle.dh_code.specs.Operated.{view_seen}
use Rattle.dh_code.proofs.LinksPassed.{LinksSoFar}
use Rattle.dh_code.proofs.passing.pass.Given as goal

abbrev pub invariant-loop-link : goal.invariant-loop-link
invariant-loop-link l = LinksSoFar (view_seen l.view) l._dims l.links (numbers_in l.fn.named) l.offsets l.rest l.link-index l.index
