-- Lists of nodes of the code side by side as what they stand for.
use Rattle.std.specs.Prelude.{List, [], ◌∷◌, Vec}
use Rattle.std.specs.Global.{Global}
use Rattle.dh_plan.specs.PlainPlans as plain
use Rattle.dh_plan.specs.declared.plans.Node.{Node}
use Rattle.dh_plan.specs.SeenPlans.{nodes_seen}

abbrev pub threads_seen : List (Vec Node Global) → plain.NodeLists
threads_seen [] = plain.no_lists
threads_seen (l ∷ ls) = plain.list_then (nodes_seen l.items) (threads_seen ls)
