-- The assignments so far are done.
use Rattle.dh_code.specs.Rows.{contents_of}
use Rattle.dh_code.specs.Underway.{RunSoFar, list_depth}
use Rattle.dh_code.proofs.straight.assign_on.Given as goal

abbrev pub invariant-loop-list : goal.invariant-loop-list
invariant-loop-list l = RunSoFar l.scene l.fn.state (contents_of l.rows) l.paths l.fn.list l.state l.list

abbrev pub decreases-loop-list : goal.decreases-loop-list
decreases-loop-list l = list_depth l.list
