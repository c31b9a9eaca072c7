use Rattle.dh_plan.proofs.LeastLegal.{least_is_legal}
use Rattle.dh_plan.proofs.LeastLengths.{has_least_lengths}
use Rattle.dh_plan.proofs.laws.least_clocks_are_legal.Goals as goal

pub returns-clause-legal : goal.returns-clause-legal
returns-clause-legal c = least_is_legal

pub returns-clause-lengths : goal.returns-clause-lengths
returns-clause-lengths c = has_least_lengths
