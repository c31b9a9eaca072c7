use Rattle.dh_plan.proofs.Appends.{appends_keep, ends_in_order, puts_in_order, sets_in_order}
use Rattle.dh_plan.proofs.laws.pieces_come_in_order.Goals as goal

pub returns-clause-appends : goal.returns-clause-appends
returns-clause-appends c os more = appends_keep os more

pub returns-clause-ends : goal.returns-clause-ends
returns-clause-ends c es more = ends_in_order es more

pub returns-clause-puts : goal.returns-clause-puts
returns-clause-puts c = puts_in_order

pub returns-clause-sets : goal.returns-clause-sets
returns-clause-sets c = sets_in_order
