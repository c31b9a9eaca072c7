use Rattle.dh_code.proofs.ListsRun.{list_depth}
use Rattle.dh_sem.proofs.stepping.+descend.Given as goal

abbrev pub decreases-descend : goal.decreases-descend
decreases-descend l = list_depth l.list
