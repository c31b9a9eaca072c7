use Rattle.dh_told.proofs.NodesCharge.{made_nodes_charge, made_plans_charge}
use Rattle.dh_told.proofs.laws.made_plans_charge.Goals as goal

pub returns-clause-nodes : goal.returns-clause-nodes
returns-clause-nodes c scene final plan is memories = made_nodes_charge scene final plan is memories

pub returns-clause-plans : goal.returns-clause-plans
returns-clause-plans c scene final plan is memories once = made_plans_charge scene final plan is memories once
