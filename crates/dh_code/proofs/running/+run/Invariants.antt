-- The commands so far are done.
use Rattle.std.proofs.Common.{◌+◌, ◌*◌, max}
use Rattle.dh_code.specs.Rows.{contents_of}
use Rattle.dh_code.proofs.ListsRun.{RunSoFar, action_depth, list_depth}
use Rattle.dh_code.proofs.running.+run.Given as goal

abbrev pub decreases-choose_at : goal.decreases-choose_at
decreases-choose_at l = 4 * max (list_depth l.chosen) (list_depth l.other) + 1

abbrev pub decreases-choose : goal.decreases-choose
decreases-choose l = 4 * max (list_depth l.chosen) (list_depth l.other) + 1

abbrev pub decreases-run_one : goal.decreases-run_one
decreases-run_one l = 4 * action_depth l.action.now + 2

abbrev pub decreases-run : goal.decreases-run
decreases-run l = 4 * list_depth l.list

abbrev pub invariant-run-loop-list : goal.invariant-run-loop-list
invariant-run-loop-list l = RunSoFar l.scene l.fn.state (contents_of l.rows) l.paths l.fn.list l.state l.list

abbrev pub decreases-run-loop-list : goal.decreases-run-loop-list
decreases-run-loop-list l = list_depth l.list
