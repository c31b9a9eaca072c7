-- The frames so far led to no block.
use Rattle.dh_sem.specs.Steps.{weight_of}
use Rattle.dh_sem.proofs.Following.{GoneSoFar}
use Rattle.dh_sem.proofs.stepping.go_on.Given as goal

abbrev pub invariant-loop-frame : goal.invariant-loop-frame
invariant-loop-frame l = GoneSoFar l.course l.holds l.fn.state l.fn.frames.items l.state l.frames.items

abbrev pub decreases-loop-frame : goal.decreases-loop-frame
decreases-loop-frame l = weight_of l.frames.items
