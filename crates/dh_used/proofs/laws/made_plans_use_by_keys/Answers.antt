use Rattle.dh_used.proofs.NodesMade.{made_nodes_use, made_plans_use}
use Rattle.dh_used.proofs.laws.made_plans_use_by_keys.Goals as goal

pub returns-clause-nodes : goal.returns-clause-nodes
returns-clause-nodes c scene final plan is = made_nodes_use scene final plan is

pub returns-clause-plans : goal.returns-clause-plans
returns-clause-plans c scene final plan is once = made_plans_use scene final plan is once
