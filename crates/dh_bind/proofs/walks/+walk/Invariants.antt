use Rattle.std.proofs.Common.{drop}
use Rattle.dh_plan.specs.SeenPlans.{alls, ones}
use Rattle.dh_bind.specs.Standings.{InAll, InOne}
use Rattle.dh_bind.proofs.walks.+walk.Given as goal

abbrev pub invariant-walk_all-loop-part : goal.invariant-walk_all-loop-part
invariant-walk_all-loop-part l = InAll (alls l.parts) (alls (drop l.part-index l.parts)) l.initial.walker l.walker

abbrev pub invariant-walk_one-loop-part : goal.invariant-walk_one-loop-part
invariant-walk_one-loop-part l = InOne (ones l.parts) (ones (drop l.part-index l.parts)) l.initial.walker l.walker l.ends.items
